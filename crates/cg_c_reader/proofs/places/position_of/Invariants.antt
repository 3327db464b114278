use Rattle.std.proofs.Common.{◌≡◌, ◌+◌, ◌≤◌, take}
use Rattle.cg_c_syntax.specs.Places.{line_after, column_after}
use Rattle.cg_c_reader.proofs.places.position_of.Given as goal

-- the line and the column after the bytes so far
abbrev pub invariant-loop-byte : goal.invariant-loop-byte
invariant-loop-byte l = record {
  line : l.line ≡ line_after (take l.byte-index l.byte-items);
  column : l.column ≡ column_after (take l.byte-index l.byte-items);
  room : l.column ≤ l.byte-index + 1;
}
