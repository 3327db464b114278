use Rattle.std.proofs.Common.{◌≡◌, ◌++◌, take}
use Rattle.cg_netlist.specs.Netlist.{argument_pins}
use Rattle.cg_netlist.proofs.pins.push_argument_pins.Given as goal

abbrev pub invariant-loop-place : goal.invariant-loop-place
invariant-loop-place l = l.pins.items ≡ l.fn.pins.items ++ argument_pins l.arch 0 (take l.place l.ports)
