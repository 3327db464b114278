use Rattle.std.proofs.Common.{ℕ}
use Rattle.cg_simplify.specs.Restating.{HasWord, IsOwnWord}
use Rattle.cg_simplify.proofs.Restated.{word_own}
use Rattle.cg_simplify.proofs.Throughs.{if_some}
use Rattle.cg_simplify.proofs.words.initial_word.Goals as goal

pub returns : goal.returns
returns c = λ nodes tops.
    if_some c.own_word.result (λ (k : ℕ). IsOwnWord c.args.number c.args.node.now k) (λ (k : ℕ). HasWord nodes tops c.args.number c.args.node.now k)
    (λ k h. word_own nodes tops c.args.number c.args.node.now k h) c.own_word.ensures
