use Rattle.std.proofs.Common.{◌≡◌, map, take}
use Rattle.cg_kernel.specs.Answer.{edge_of}
use Rattle.cg_kernel.proofs.build.edges_of.Given as goal

abbrev pub invariant-loop-edge : goal.invariant-loop-edge
invariant-loop-edge l = l.order.items ≡ map (edge_of l.written) (take l.edge-index l.list)
