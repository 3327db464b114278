use Rattle.std.proofs.Common.{◌≡◌, ◌<◌, List, length, ap, ◌∙◌, subst}
use Rattle.std.specs.Prelude.{slice_index_or}
use Rattle.cg_model.specs.declared.kernel.Node.{Node}
use Rattle.cg_model.specs.Kernel.{no_node, node, size}
use Rattle.cg_simplify.specs.Operands.{IsValueOf}
use Rattle.cg_simplify.proofs.Throughs.{stands_by}
use Rattle.cg_simplify.proofs.through.stands_for.Goals as goal

pub returns-then-is_const : goal.returns-then-is_const
returns-then-is_const c =
    let D = c.args.draft.now in
    let w = c.args.number in
    let ts = c.args.tops.now in
    let x = c.in_ok-operand.operand.now in
    let h = c.in_ok-node.ensures.lookup in
    let l : w < size D = subst (λ (xs : List Node). w < length xs) c.nodes-nodes.ensures.nodes h.3.0 in
    let is : c.in_ok-node.node.now ≡ node D w = h.3.1 no_node ∙ ap (λ (xs : List Node). slice_index_or xs w no_node) c.nodes-nodes.ensures.nodes in
    let known : IsValueOf c.nodes-nodes.result.now ts (node D w) x = subst (λ (n : Node). IsValueOf c.nodes-nodes.result.now ts n x) is c.in_ok-operand.ensures in
    stands_by ts D w x c.nodes-nodes.ensures.valid l (subst (λ (ns : List Node). IsValueOf ns ts (node D w) x) c.nodes-nodes.ensures.nodes known)

pub returns-else-copies : goal.returns-else-copies
returns-else-copies c =
    let D = c.args.draft.now in
    let w = c.args.number in
    let ts = c.args.tops.now in
    let x = c.in_ok-operand.operand.now in
    let h = c.in_ok-node.ensures.lookup in
    let l : w < size D = subst (λ (xs : List Node). w < length xs) c.nodes-nodes.ensures.nodes h.3.0 in
    let is : c.in_ok-node.node.now ≡ node D w = h.3.1 no_node ∙ ap (λ (xs : List Node). slice_index_or xs w no_node) c.nodes-nodes.ensures.nodes in
    let known : IsValueOf c.nodes-nodes.result.now ts (node D w) x = subst (λ (n : Node). IsValueOf c.nodes-nodes.result.now ts n x) is c.in_ok-operand.ensures in
    stands_by ts D w x c.nodes-nodes.ensures.valid l (subst (λ (ns : List Node). IsValueOf ns ts (node D w) x) c.nodes-nodes.ensures.nodes known)
