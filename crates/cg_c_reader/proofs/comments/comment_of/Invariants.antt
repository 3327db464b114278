use Rattle.std.proofs.Common.{◌≡◌, ◌+◌, drop}
use Rattle.cg_c_syntax.specs.Pieces.{sound_length}
use Rattle.cg_c_reader.proofs.comments.comment_of.Given as goal

-- the bytes so far may be in a comment
abbrev pub invariant-loop-place : goal.invariant-loop-place
invariant-loop-place l = l.place + sound_length l.one_line (drop l.place l.bytes) ≡ sound_length l.one_line l.bytes
