use Rattle.std.proofs.Common.{◌≡◌, ◌<◌, ◌∙◌, List, length, ap, subst, sym}
use Rattle.std.specs.Prelude.{slice_index_or}
use Rattle.cg_model.specs.declared.kernel.Node.{Node}
use Rattle.cg_model.specs.declared.kernel.Operand.{Operand}
use Rattle.cg_model.specs.Kernel.{no_node, node, size}
use Rattle.cg_simplify.specs.Guards.{IsEqNode}
use Rattle.cg_simplify.specs.Operands.{ComparesWithZero}
use Rattle.cg_simplify.proofs.Throughs.{if_some}
use Rattle.cg_simplify.proofs.guards.eq_with_zero.Goals as goal

pub returns : goal.returns
returns c =
    let D = c.args.draft.now in
    let v = c.args.number in
    let ts = c.args.tops.now in
    let h = c.in_ok-node.ensures.lookup in
    let l : v < size D = subst (λ (xs : List Node). v < length xs) c.nodes-nodes.ensures.nodes h.3.0 in
    let is : c.in_ok-node.node.now ≡ node D v = h.3.1 no_node ∙ ap (λ (xs : List Node). slice_index_or xs v no_node) c.nodes-nodes.ensures.nodes in
    let compared : (x : Operand) → ComparesWithZero c.nodes-nodes.result.now ts c.in_ok-node.node.now x → ComparesWithZero D.nodes ts (node D v) x =
    λ x e. subst (λ (ns : List Node). ComparesWithZero ns ts (node D v) x) c.nodes-nodes.ensures.nodes (subst (λ (n : Node). ComparesWithZero c.nodes-nodes.result.now ts n x) is e) in
    if_some c.compared_with_zero.result (λ x. ComparesWithZero c.nodes-nodes.result.now ts c.in_ok-node.node.now x.now) (λ x. IsEqNode ts D v x.now)
    (λ x e. record { inside = l; op = ap (λ (n : Node). n.op) (sym is) ∙ c.in-Eq.is; compares = compared x.now e }) c.compared_with_zero.ensures
