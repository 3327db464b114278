use Rattle.std.proofs.Common.{◌≡◌, ◌++◌, length, map}
use Rattle.std.specs.List.{AllByRecursion, flat_map}
use Rattle.cg_verilog.specs.Module.{IsPin, further_pin}
use Rattle.cg_verilog.specs.Read.{left, pin_of}
use Rattle.cg_verilog.proofs.reader.Reader.further_pins.Given as goal

-- these are read, and the others are left
abbrev pub invariant-loop-pins : goal.invariant-loop-pins
invariant-loop-pins l = record {
  right : AllByRecursion IsPin (map pin_of l.pins.items);
  read : left l.fn.self ≡ flat_map further_pin (map pin_of l.pins.items) ++ left l.self;
  same : l.self.bytes ≡ l.fn.self.bytes;
}

abbrev pub decreases-loop-pins : goal.decreases-loop-pins
decreases-loop-pins l = length (left l.self)
