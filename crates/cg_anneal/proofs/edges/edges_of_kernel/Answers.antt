use Rattle.std.proofs.Common.{◌∙◌, ◌++◌, get_or, sym, ap}
use Rattle.std.proofs.lemmas.List.{take_all}
use Rattle.cg_model.specs.declared.kernel.Node.{Node}
use Rattle.cg_walk_spec.specs.State.{edges, edges_among, edges_from}
use Rattle.cg_anneal.proofs.Operands.{from_more}
use Rattle.cg_anneal.proofs.edges.edges_of_kernel.Goals as goal

pub loop-node-preserved : goal.loop-node-preserved
loop-node-preserved c =
    let ns = c.nodes-nodes.result.now in
    let k = c.loop-node.node in
    let n : Node = c.index-nodes-node.result in
    c.in_ok-add_operands.ensures ∙ ap (λ os. c.loop-node.edges.items ++ edges_among k 0 os) c.as_slice.ensures
    ∙ ap (λ xs. xs ++ edges_among k 0 (get_or ns k n).operands) c.loop-node.invariant ∙ sym (from_more ns k n c.loop-node-test.true)

pub returns : goal.returns
unfolding edges
returns c =
    let ns = c.nodes-nodes.result.now in
    c.loop-node.invariant ∙ ap (λ xs. edges_from 0 xs) (take_all c.loop-node.node ns c.loop-node-test.false ∙ c.nodes-nodes.ensures.nodes)
