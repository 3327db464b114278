use Rattle.std.proofs.Common.{◌≡◌, ◌++◌, take, flat_map}
use Rattle.cg_netlist.specs.Text.{further_text}
use Rattle.cg_netlist.proofs.print.push_further_pins.Given as goal

abbrev pub invariant-loop-pin : goal.invariant-loop-pin
invariant-loop-pin l = l.text.items ≡ l.fn.text.items ++ flat_map further_text (take l.pin-index l.pins)
