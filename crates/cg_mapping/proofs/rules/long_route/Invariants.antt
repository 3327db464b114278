use Rattle.std.proofs.Common.{◌≡◌, drop}
use Rattle.std.specs.List.{position_from}
use Rattle.cg_mapping.specs.Rules.{is_long}
use Rattle.cg_mapping.proofs.rules.long_route.Given as goal

abbrev pub invariant-loop-number : goal.invariant-loop-number
invariant-loop-number l = position_from is_long l.number (drop l.number l.routes) ≡ position_from is_long 0 l.routes
