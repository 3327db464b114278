use Rattle.std.proofs.Common.{◌≡◌, ◌∙◌, List, Some, true, subst, sym}
use Rattle.std.specs.Prelude.{slice_get}
use Rattle.cg_model.specs.declared.kernel.Operand.{Operand}
use Rattle.cg_simplify_facts.specs.Suits.{AreFactsOf, AreOfWords, computes}
use Rattle.cg_simplify.specs.Operands.{IsValueOf}
use Rattle.cg_simplify.proofs.Throughs.{if_some, of_identity}
use Rattle.cg_simplify.proofs.through.identical.Goals as goal

pub returns : goal.returns
returns c =
    let ns = c.args.nodes.now in
    let ts = c.args.tops.now in
    let n = c.args.node.now in
    let p = c.in_ok-place.place in
    let f = c.facts_of.result in
    let facts : AreOfWords n.operands → AreFactsOf ns ts n.operands f =
    subst (λ (os : List Operand). AreOfWords os → AreFactsOf ns ts os f) c.as_slice.ensures c.facts_of.ensures in
    let computing : computes n.op ≡ true = sym c.computes.ensures ∙ c.if-not-computes.false in
    if_some c.operand_at.result (λ x. slice_get n.operands p ≡ Some x.now) (λ x. IsValueOf ns ts n x.now)
    (λ x h. of_identity ns ts n f p x.now computing facts c.in_ok-place.ensures h) c.operand_at.ensures
