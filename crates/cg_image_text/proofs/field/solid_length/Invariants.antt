use Rattle.std.proofs.Common.{◌≡◌, ◌+◌, drop}
use Rattle.std.specs.List.{prefix_len}
use Rattle.cg_image_text.specs.Fields.{is_solid}
use Rattle.cg_image_text.proofs.field.solid_length.Given as goal

-- the bytes so far are counted, and the others are left
abbrev pub invariant-loop-byte : goal.invariant-loop-byte
invariant-loop-byte l = record {
  counted : l.count ≡ l.byte-index;
  left : l.count + prefix_len is_solid (drop l.byte-index l.bytes) ≡ prefix_len is_solid l.bytes;
}
