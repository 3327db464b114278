use Rattle.std.proofs.Common.{◌≡◌, drop}
use Rattle.std.specs.List.{position_from}
use Rattle.cg_mapping.specs.Rules.{place_has_other}
use Rattle.cg_mapping.proofs.rules.place_with_other.Given as goal

abbrev pub invariant-loop-number : goal.invariant-loop-number
invariant-loop-number l = position_from place_has_other l.number (drop l.number l.places) ≡ position_from place_has_other 0 l.places
