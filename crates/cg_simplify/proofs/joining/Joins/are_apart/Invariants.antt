use Rattle.std.proofs.Common.{◌≡◌, ℕ, ◌<◌, true}
use Rattle.cg_word.specs.Word.{is_store}
use Rattle.cg_model.specs.Kernel.{node}
use Rattle.cg_simplify.specs.Joining.{IsApart}
use Rattle.cg_simplify.proofs.joining.Joins.are_apart.Given as goal

-- the stores so far leave the word
abbrev pub invariant-loop-w : goal.invariant-loop-w
invariant-loop-w l = (v : ℕ) → l.m < v → v < l.w → is_store (node l.self v).op ≡ true → IsApart l.self l.m v
