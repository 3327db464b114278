use Rattle.std.proofs.Common.{◌≡◌, take, flat_map}
use Rattle.cg_netlist.specs.Netlist.{nets_of}
use Rattle.cg_netlist.proofs.build.nets_of.Given as goal

abbrev pub invariant-loop-resource : goal.invariant-loop-resource
invariant-loop-resource l = l.nets.items ≡ flat_map nets_of (take l.resource-index l.resources)
