use Rattle.std.proofs.Common.{◌≡◌, ◌++◌, map, take}
use Rattle.cg_verilog.specs.Read as modules
use Rattle.cg_netlist.specs.Text.{pin_of}
use Rattle.cg_netlist_reader.proofs.taken.push_pins.Given as goal

abbrev pub invariant-loop-pin : goal.invariant-loop-pin
invariant-loop-pin l = map pin_of l.pins.items ≡ map pin_of l.fn.pins.items ++ map modules.pin_of (take l.pin-index l.more)
