use Rattle.std.proofs.Common.{◌<◌}
use Rattle.cg_search_costs.proofs.hops.farthest_out.Given as goal

abbrev pub invariant-loop-out : goal.invariant-loop-out
invariant-loop-out l = l.most < 255
