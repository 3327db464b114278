use Rattle.std.proofs.Common.{◌≡◌, take, None}
use Rattle.std.specs.List.{flat_map}
use Rattle.cg_netlist_reader.specs.Reading.{pin_net}
use Rattle.cg_netlist_reader.specs.Looked.{unknown_by}
use Rattle.cg_netlist_reader.proofs.joining.check_pins.Given as goal

abbrev pub invariant-loop-pin : goal.invariant-loop-pin
invariant-loop-pin l = unknown_by l.numbers (flat_map pin_net (take l.pin-index l.pins)) ≡ None
