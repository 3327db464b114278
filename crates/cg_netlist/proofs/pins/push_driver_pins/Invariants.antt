use Rattle.std.proofs.Common.{◌≡◌, ◌++◌, take}
use Rattle.cg_netlist.specs.Netlist.{driver_pins}
use Rattle.cg_netlist.proofs.pins.push_driver_pins.Given as goal

abbrev pub invariant-loop-place : goal.invariant-loop-place
invariant-loop-place l = l.pins.items ≡ l.fn.pins.items ++ driver_pins l.arch 1 (take l.place l.drivers)
