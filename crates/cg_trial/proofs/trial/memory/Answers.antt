use Rattle.std.proofs.Common.{ℕ, [], ◌∷◌, ◌++◌, ap, sym, ◌∙◌, arith}
use Rattle.cg_trial.proofs.Scans.{range_more}
use Rattle.cg_trial.proofs.trial.memory.Goals as goal

pub loop-word-preserved : goal.loop-word-preserved
loop-word-preserved c =
    let k : ℕ = c.loop-word.word in c.in_ok-push.ensures.items ∙ ap (λ xs. xs ++ k ∷ []) c.loop-word.invariant ∙ sym (range_more 0 k k (omega arith))
