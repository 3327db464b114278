use Rattle.std.proofs.Common.{◌≡◌, map, take}
use Rattle.cg_netlist.specs.declared.parts.Pin.{Pin}
use Rattle.cg_gates.specs.Order.{net_number}
use Rattle.cg_gates_run.proofs.wires.numbers_of_pins.Given as goal

abbrev pub invariant-loop-pin : goal.invariant-loop-pin
invariant-loop-pin l = l.list.items ≡ map (net_number l.nets) (map (λ (p : Pin). p.net) (take l.pin-index l.pins))
