use Rattle.std.proofs.Common.{◌≡◌, ◌<◌, ◌∙◌, ℕ, List, length, ap, subst}
use Rattle.std.specs.Prelude.{slice_index_or}
use Rattle.cg_model.specs.declared.kernel.Node.{Node}
use Rattle.cg_model.specs.Kernel.{no_node, node, size}
use Rattle.cg_simplify.specs.Restating.{HasWord, HasWordAt}
use Rattle.cg_simplify.proofs.Restated.{word_here}
use Rattle.cg_simplify.proofs.Throughs.{if_some}
use Rattle.cg_simplify.proofs.restating.Rewriting.known_word.Goals as goal

pub returns : goal.returns
returns c = λ K.
    let D = c.args.self.now.draft in
    let v = c.args.number in
    let ts = c.args.self.now.tops.items in
    let h = c.in_ok-node.ensures.lookup in
    let l : v < size D = subst (λ (xs : List Node). v < length xs) c.nodes-nodes.ensures.nodes h.3.0 in
    let is : c.in_ok-node.node.now ≡ node D v = h.3.1 no_node ∙ ap (λ (xs : List Node). slice_index_or xs v no_node) c.nodes-nodes.ensures.nodes in
    let known : (k : ℕ) → HasWord c.nodes-nodes.result.now c.deref.result.now v c.in_ok-node.node.now k → HasWord D.nodes ts v (node D v) k =
    λ k e. subst (λ (ns : List Node). HasWord ns ts v (node D v) k) c.nodes-nodes.ensures.nodes
    (subst (λ (xs : List ℕ). HasWord c.nodes-nodes.result.now xs v (node D v) k) c.deref.ensures.value (subst (λ (n : Node). HasWord c.nodes-nodes.result.now c.deref.result.now v n k) is e)) in
    if_some c.word_of.result (λ (k : ℕ). HasWord c.nodes-nodes.result.now c.deref.result.now v c.in_ok-node.node.now k) (λ (k : ℕ). HasWordAt K ts D v k)
    (λ k e. word_here ts D v k c.nodes-nodes.ensures.valid l (known k e) K) c.word_of.ensures
