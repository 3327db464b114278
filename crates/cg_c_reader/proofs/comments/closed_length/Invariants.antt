use Rattle.std.proofs.Common.{◌≡◌, drop}
use Rattle.cg_c_syntax.specs.Pieces.{closed_length}
use Rattle.cg_c_reader.specs.Within.{further}
use Rattle.cg_c_reader.proofs.comments.closed_length.Given as goal

-- no */ is before the place
abbrev pub invariant-loop-place : goal.invariant-loop-place
invariant-loop-place l = closed_length l.bytes ≡ further l.place (closed_length (drop l.place l.bytes))
