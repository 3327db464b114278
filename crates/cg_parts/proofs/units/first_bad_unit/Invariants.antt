use Rattle.std.proofs.Common.{◌≡◌, drop}
use Rattle.cg_model.specs.First.{first_from}
use Rattle.cg_parts.specs.Rules.{is_bad_unit}
use Rattle.cg_parts.proofs.units.first_bad_unit.Given as goal

abbrev pub invariant-loop-number : goal.invariant-loop-number
invariant-loop-number l = first_from (λ number e. is_bad_unit e) l.number (drop l.number l.elements) ≡ first_from (λ number e. is_bad_unit e) 0 l.elements
