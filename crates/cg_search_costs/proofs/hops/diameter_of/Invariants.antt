use Rattle.std.proofs.Common.{◌<◌}
use Rattle.cg_search_costs.proofs.hops.diameter_of.Given as goal

abbrev pub invariant-loop-unit : goal.invariant-loop-unit
invariant-loop-unit l = l.most < 255
