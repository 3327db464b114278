use Rattle.std.proofs.Common.{◌≡◌, ◌++◌, length, map}
use Rattle.std.specs.List.{AllByRecursion, flat_map}
use Rattle.cg_verilog.specs.Module.{IsWire, wire_tokens}
use Rattle.cg_verilog.specs.Read.{left, wire_of}
use Rattle.cg_verilog.proofs.reader.Reader.wires.Given as goal

-- these are read, and the others are left
abbrev pub invariant-loop-wires : goal.invariant-loop-wires
invariant-loop-wires l = record {
  right : AllByRecursion IsWire (map wire_of l.wires.items);
  read : left l.fn.self ≡ flat_map wire_tokens (map wire_of l.wires.items) ++ left l.self;
  same : l.self.bytes ≡ l.fn.self.bytes;
}

abbrev pub decreases-loop-wires : goal.decreases-loop-wires
decreases-loop-wires l = length (left l.self)
