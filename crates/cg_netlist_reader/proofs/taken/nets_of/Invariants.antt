use Rattle.std.proofs.Common.{◌≡◌, map, take}
use Rattle.cg_verilog.specs.Read as modules
use Rattle.cg_netlist.specs.Text.{wire_of}
use Rattle.cg_netlist_reader.proofs.taken.nets_of.Given as goal

abbrev pub invariant-loop-wire : goal.invariant-loop-wire
invariant-loop-wire l = map wire_of l.nets.items ≡ map modules.wire_of (take l.wire-index l.wires)
