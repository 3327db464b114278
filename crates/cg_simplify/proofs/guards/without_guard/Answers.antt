use Rattle.std.proofs.Common.{◌≡◌, ◌<◌, ◌∙◌, List, ◌∷◌, refl, arith, Some, length, ap, subst, sym}
use Rattle.std.specs.Prelude.{slice_index_or}
use Rattle.cg_model.specs.declared.kernel.Node.{Node}
use Rattle.cg_model.specs.Kernel.{no_node, node, size}
use Rattle.std.proofs.lemmas.Bool.{lt-ltb}
use Rattle.cg_simplify_facts.specs.Suits.{IsFactOf, IsOfWords}
use Rattle.cg_simplify.specs.Guards.{unguarded}
use Rattle.cg_simplify.proofs.Guarded.{acts_text, skips_text}
use Rattle.cg_simplify.proofs.guards.without_guard.Goals as goal

pub returns-in_ok-copy_operands : goal.returns-in_ok-copy_operands
returns-in_ok-copy_operands c = λ K.
    let D = c.args.draft.now in
    let v = c.args.number in
    let ts = c.args.tops.now in
    let h = c.in-Some.ensures.lookup in
    let l : v < size D = subst (λ (xs : List Node). v < length xs) c.nodes-nodes.ensures.nodes h.3.0 in
    let is : c.in-Some.node.now ≡ node D v = h.3.1 no_node ∙ ap (λ (xs : List Node). slice_index_or xs v no_node) c.nodes-nodes.ensures.nodes in
    let ops : c.as_slice.result.now ≡ (node D v).operands = c.as_slice.ensures ∙ ap (λ (n : Node). n.operands) is in
    let split : (node D v).operands ≡ c.in-Some-split_first.guard.now ∷ c.in-Some-split_first.rest.now = sym ops ∙ c.in-Some-split_first.ensures.cases.0 in
    let guarded : unguarded (node D v).op ≡ Some c.in-Some-unguarded.op = ap (λ (n : Node). unguarded n.op) (sym is) ∙ sym c.unguarded.ensures ∙ c.in-Some-unguarded.is in
    let f = c.fact_of.result in
    let g = c.in-Some-split_first.guard.now in
    let fact : IsOfWords g → IsFactOf D.nodes ts g f = subst (λ (ns : List Node). IsOfWords g → IsFactOf ns ts g f) c.nodes-nodes.ensures.nodes c.fact_of.ensures in
    acts_text ts D v c.nodes-nodes.ensures.valid l c.in-Some-unguarded.op g c.in-Some-split_first.rest.now f c.in-Some-word.word guarded split fact c.in-Some-word.is
    K _ refl (ap (λ (n : Node). n.port) is) (c.new.ensures ∙ c.in_ok-copy_operands.ensures) (lt-ltb 0 c.in-Some-word.word (omega (arith, c.if-word-ne0.true)))

pub returns-in_ok-constant_text : goal.returns-in_ok-constant_text
returns-in_ok-constant_text c = λ K.
    let D = c.args.draft.now in
    let v = c.args.number in
    let ts = c.args.tops.now in
    let h = c.in-Some.ensures.lookup in
    let l : v < size D = subst (λ (xs : List Node). v < length xs) c.nodes-nodes.ensures.nodes h.3.0 in
    let is : c.in-Some.node.now ≡ node D v = h.3.1 no_node ∙ ap (λ (xs : List Node). slice_index_or xs v no_node) c.nodes-nodes.ensures.nodes in
    let ops : c.as_slice.result.now ≡ (node D v).operands = c.as_slice.ensures ∙ ap (λ (n : Node). n.operands) is in
    let split : (node D v).operands ≡ c.in-Some-split_first.guard.now ∷ c.in-Some-split_first.rest.now = sym ops ∙ c.in-Some-split_first.ensures.cases.0 in
    let guarded : unguarded (node D v).op ≡ Some c.in-Some-unguarded.op = ap (λ (n : Node). unguarded n.op) (sym is) ∙ sym c.unguarded.ensures ∙ c.in-Some-unguarded.is in
    let f = c.fact_of.result in
    let g = c.in-Some-split_first.guard.now in
    let fact : IsOfWords g → IsFactOf D.nodes ts g f = subst (λ (ns : List Node). IsOfWords g → IsFactOf ns ts g f) c.nodes-nodes.ensures.nodes c.fact_of.ensures in
    skips_text ts D v c.nodes-nodes.ensures.valid l c.in-Some-unguarded.op g c.in-Some-split_first.rest.now f c.in-Some-word.word guarded split fact c.in-Some-word.is
    K c.in_ok-constant_text.field-0 c.in_ok-constant_text.ensures.text c.if-word-ne0.false
