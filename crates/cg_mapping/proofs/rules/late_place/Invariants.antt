use Rattle.std.proofs.Common.{◌≡◌, drop}
use Rattle.std.specs.List.{position_from}
use Rattle.cg_mapping.specs.Rules.{is_late}
use Rattle.cg_mapping.proofs.rules.late_place.Given as goal

abbrev pub invariant-loop-number : goal.invariant-loop-number
invariant-loop-number l = position_from is_late l.number (drop l.number l.places) ≡ position_from is_late 0 l.places
