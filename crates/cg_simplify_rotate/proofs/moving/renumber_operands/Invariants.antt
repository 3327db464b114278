use Rattle.std.proofs.Common.{◌≡◌, ◌++◌, map, take, drop}
use Rattle.cg_simplify_rotate.specs.Moving.{moved}
use Rattle.cg_simplify_rotate.proofs.moving.renumber_operands.Given as goal

abbrev pub invariant-loop-place : goal.invariant-loop-place
invariant-loop-place l = l.operands ≡ map (moved l.u l.v) (take l.place l.fn.operands) ++ drop l.place l.fn.operands
