use Rattle.std.proofs.Common.{◌≡◌, drop}
use Rattle.cg_parts.specs.Rules.{first_driver, is_wrong}
use Rattle.cg_parts.proofs.drivers.first_wrong.Given as goal

abbrev pub invariant-loop-number : goal.invariant-loop-number
invariant-loop-number l = first_driver (is_wrong l.rule l.resources) l.number (drop l.number l.elements) ≡ first_driver (is_wrong l.rule l.resources) 0 l.elements
