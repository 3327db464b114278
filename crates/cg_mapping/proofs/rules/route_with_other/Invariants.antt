use Rattle.std.proofs.Common.{◌≡◌, drop}
use Rattle.std.specs.List.{position_from}
use Rattle.cg_mapping.specs.Rules.{route_has_other}
use Rattle.cg_mapping.proofs.rules.route_with_other.Given as goal

abbrev pub invariant-loop-number : goal.invariant-loop-number
invariant-loop-number l = position_from route_has_other l.number (drop l.number l.routes) ≡ position_from route_has_other 0 l.routes
