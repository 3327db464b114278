use Rattle.std.proofs.Common.{◌≡◌, ◌+◌, drop}
use Rattle.std.specs.List.{prefix_len}
use Rattle.cg_c_reader.specs.Classes.{in_class}
use Rattle.cg_c_reader.proofs.bytes.run_length.Given as goal

-- the bytes so far are counted, and the others are left
abbrev pub invariant-loop-byte : goal.invariant-loop-byte
invariant-loop-byte l = record {
  counted : l.count ≡ l.byte-index;
  left : l.count + prefix_len (in_class l.class) (drop l.byte-index l.bytes) ≡ prefix_len (in_class l.class) l.bytes;
}
