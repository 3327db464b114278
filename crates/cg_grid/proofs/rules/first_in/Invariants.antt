use Rattle.std.proofs.Common.{◌≡◌, drop}
use Rattle.cg_model.specs.First.{first_from}
use Rattle.cg_grid.specs.Rules.{applies}
use Rattle.cg_grid.proofs.rules.first_in.Given as goal

abbrev pub invariant-loop-number : goal.invariant-loop-number
invariant-loop-number l = first_from (λ k p. applies l.rule p) l.number (drop l.number l.parts) ≡ first_from (λ k p. applies l.rule p) 0 l.parts
