use Rattle.std.proofs.Common.{◌≡◌, ◌+◌, ◌*◌, []}
use Rattle.cg_model.specs.Canonical.{fixed_below}
use Rattle.cg_bits.specs.Parts.{joined}
use Rattle.cg_bits.specs.Faults.{arg_breaches}
use Rattle.cg_bits.proofs.rules.args_breach.Given as goal

abbrev pub invariant-loop-p : goal.invariant-loop-p
invariant-loop-p l = record {
  before : l.fixed_before ≡ fixed_below l.fields l.p;
  none : joined (λ p. arg_breaches l.fields p (l.at + p * 132)) l.p ≡ [];
}
