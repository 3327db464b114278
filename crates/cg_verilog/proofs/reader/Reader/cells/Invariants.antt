use Rattle.std.proofs.Common.{◌≡◌, ◌++◌, length, map}
use Rattle.std.specs.List.{AllByRecursion, flat_map}
use Rattle.cg_verilog.specs.Module.{IsCell, cell_tokens}
use Rattle.cg_verilog.specs.Read.{left, cell_of}
use Rattle.cg_verilog.proofs.reader.Reader.cells.Given as goal

-- these are read, and the others are left
abbrev pub invariant-loop-alloc : goal.invariant-loop-alloc
invariant-loop-alloc l = record {
  right : AllByRecursion IsCell (map cell_of l.cells.items);
  read : left l.fn.self ≡ flat_map cell_tokens (map cell_of l.cells.items) ++ left l.self;
  same : l.self.bytes ≡ l.fn.self.bytes;
}

abbrev pub decreases-loop-alloc : goal.decreases-loop-alloc
decreases-loop-alloc l = length (left l.self)
