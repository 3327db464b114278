use Rattle.std.proofs.Common.{◌≡◌, map, take}
use Rattle.cg_gates.specs.Order.{net_resource}
use Rattle.cg_gates_run.proofs.wires.resources_of.Given as goal

abbrev pub invariant-loop-net : goal.invariant-loop-net
invariant-loop-net l = l.resources.items ≡ map (net_resource l.nets) (take l.net-index l.list)
