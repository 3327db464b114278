use Rattle.std.proofs.Common.{◌<◌}
use Rattle.cg_search_costs.proofs.hops.farthest.Given as goal

abbrev pub invariant-loop-port : goal.invariant-loop-port
invariant-loop-port l = l.most < 255
