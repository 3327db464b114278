use Rattle.std.proofs.Common.{◌≡◌, ◌≤◌, ◌+◌, length, take}
use Rattle.std.specs.Prelude.{not}
use Rattle.std.specs.List.{suffix_len}
use Rattle.cg_image_text.specs.Places.{is_line_feed}
use Rattle.cg_image_text.proofs.place.last_line_length.Given as goal

-- the bytes from there on are in the last line
abbrev pub invariant-loop-start : goal.invariant-loop-start
invariant-loop-start l = record {
  within : l.start ≤ length l.bytes;
  rest : l.start + suffix_len (λ b. not (is_line_feed b)) l.bytes ≡ length l.bytes + suffix_len (λ b. not (is_line_feed b)) (take l.start l.bytes);
}

abbrev pub decreases-loop-start : goal.decreases-loop-start
decreases-loop-start l = l.start
