use Rattle.std.proofs.Common.{◌≡◌, ◌∙◌, List, ℕ, true, subst, sym}
use Rattle.cg_simplify_facts.specs.Facts.{IsConstant}
use Rattle.cg_model.specs.declared.kernel.Operand.{Operand}
use Rattle.cg_simplify_facts.specs.Suits.{AreFactsOf, AreOfWords, computes}
use Rattle.cg_simplify.specs.Restating.{HasWord}
use Rattle.cg_simplify.proofs.Restated.{word_computed, word_least}
use Rattle.cg_simplify.proofs.Throughs.{if_some}
use Rattle.cg_simplify.proofs.words.computed_word.Goals as goal

pub returns-then-top_at-eq0 : goal.returns-then-top_at-eq0
returns-then-top_at-eq0 c =
    let computing : computes c.args.node.now.op ≡ true = sym c.computes.ensures ∙ c.if-not-computes.false in
    word_least c.args.nodes.now c.args.tops.now c.args.number c.args.node.now computing (sym c.top_at.ensures ∙ c.if-top_at-eq0.true)

pub returns : goal.returns
returns c =
    let ns = c.args.nodes.now in
    let ts = c.args.tops.now in
    let n = c.args.node.now in
    let v = c.args.number in
    let f = c.facts_of.result in
    let facts : AreOfWords n.operands → AreFactsOf ns ts n.operands f =
    subst (λ (os : List Operand). AreOfWords os → AreFactsOf ns ts os f) c.as_slice.ensures c.facts_of.ensures in
    let computing : computes n.op ≡ true = sym c.computes.ensures ∙ c.if-not-computes.false in
    if_some c.constant_of.result (λ (k : ℕ). IsConstant n.op f k) (λ (k : ℕ). HasWord ns ts v n k)
    (λ k h. word_computed ns ts v n f k computing facts h) c.constant_of.ensures
