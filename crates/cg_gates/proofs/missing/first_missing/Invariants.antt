use Rattle.std.proofs.Common.{◌≡◌, drop}
use Rattle.std.specs.Prelude.{find}
use Rattle.cg_gates.specs.Numbers.{has_no_number}
use Rattle.cg_gates.proofs.missing.first_missing.Given as goal

abbrev pub invariant-loop-unit : goal.invariant-loop-unit
invariant-loop-unit l = find (has_no_number l.cells) (drop l.unit-index l.units) ≡ find (has_no_number l.cells) l.units
