use Rattle.std.proofs.Common.{List, true, subst}
use Rattle.cg_model.specs.declared.kernel.Operand.{Operand}
use Rattle.cg_simplify_facts.specs.Suits.{AreFactsOf, AreOfWords}
use Rattle.cg_simplify.specs.Operands.{ComparesWithZero, IsEdgeAt}
use Rattle.cg_simplify.proofs.Compared.{compares_first, compares_second}
use Rattle.cg_simplify.proofs.Throughs.{if_some}
use Rattle.cg_simplify.proofs.zero.compared_with_zero.Goals as goal

pub returns-in-Some : goal.returns-in-Some
returns-in-Some c =
    let ns = c.args.nodes.now in
    let ts = c.args.tops.now in
    let n = c.args.node.now in
    let f = c.facts_of-facts.result in
    let facts : AreOfWords n.operands → AreFactsOf ns ts n.operands f =
    subst (λ (os : List Operand). AreOfWords os → AreFactsOf ns ts os f) c.as_slice.ensures c.facts_of-facts.ensures in
    compares_first ns ts n f c.in-Some.operand.now (c.compares.ensures c.if-not-compares.false) facts (c.is_zero.ensures c.if-is_zero.true) c.in-Some.ensures

pub returns-then-is_zero-2 : goal.returns-then-is_zero-2
returns-then-is_zero-2 c =
    let ns = c.args.nodes.now in
    let ts = c.args.tops.now in
    let n = c.args.node.now in
    let f = c.facts_of-facts.result in
    let facts : AreOfWords n.operands → AreFactsOf ns ts n.operands f =
    subst (λ (os : List Operand). AreOfWords os → AreFactsOf ns ts os f) c.as_slice.ensures c.facts_of-facts.ensures in
    if_some c.other_edge-then-is_zero-2.result (λ x. IsEdgeAt n 1 x.now) (λ x. ComparesWithZero ns ts n x.now)
    (λ x e. compares_second ns ts n f x.now (c.compares.ensures c.if-not-compares.false) facts (c.is_zero-2.ensures c.if-is_zero-2.true) e) c.other_edge-then-is_zero-2.ensures
