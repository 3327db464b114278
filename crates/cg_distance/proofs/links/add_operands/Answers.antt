use Rattle.std.proofs.Common.{◌≡◌, ◌+◌, length, arith, sym, subst}
use Rattle.cg_model.specs.declared.kernel.Operand.{Operand}
use Rattle.cg_model.specs.Kernel.{IsKernel, HasOperand, size, node}
use Rattle.cg_distance.specs.Leaving.{HasLinks, Seen}
use Rattle.cg_distance.proofs.Seen.{operand_read, operands_read, edge_added, constant_added, node_added}
use Rattle.cg_distance.proofs.links.add_operands.Goals as goal
use Rattle.cg_distance.proofs.links.add_operands.Goals.{in-Const, in-Edge+in_ok-add_link-in-Edge}

pub loop-place-preserved : goal.loop-place-preserved
loop-place-preserved c =
    let K = c.args.kernel.now in
    let good : IsKernel K = c.nodes.ensures.valid in
    let to = c.args.to in
    let p = c.loop-place.place in
    let has : HasOperand K to p c.index-operands-place.result =
    operand_read K c.index-nodes-to.result c.nodes.result.now c.as_slice-operands.result.now c.index-operands-place.result to p c.nodes.ensures.nodes c.requires.to c.index-nodes-to.is c.as_slice-operands.ensures c.loop-place-test.true c.index-operands-place.is in
    elim c.match-operands-place.branch [
      | in-Const w ↦
          subst (λ z. HasLinks (size K) (Seen K to (p + 1) 0) z) (sym w.lists-is)
          (constant_added K to p _ c.loop-place.lists (subst (λ (o : Operand). HasOperand K to p o) w.in-Const.is has) c.loop-place.invariant)
      | in-Edge+in_ok-add_link-in-Edge w ↦
          subst (λ z. HasLinks (size K) (Seen K to (p + 1) 0) z) (sym (w.lists-is))
          (subst (λ z. HasLinks (size K) (Seen K to (p + 1) 0) z) (sym w.in_ok-add_link-in-Edge.ensures)
          (edge_added K good to p w.in-Edge.from w.in-Edge.distance w.in-Edge.init c.loop-place.lists c.requires.to (subst (λ (o : Operand). HasOperand K to p o) w.in-Edge.is has) c.loop-place.invariant))
    ]

pub returns : goal.returns
returns c =
    let K = c.args.kernel.now in
    let to = c.args.to in
    let long = operands_read K c.index-nodes-to.result c.nodes.result.now c.as_slice-operands.result.now to c.nodes.ensures.nodes c.requires.to c.index-nodes-to.is c.as_slice-operands.ensures in
    let e : c.loop-place.place ≡ length (node K to).operands = omega arith in
    node_added K to c.loop-place.lists (subst (λ z. HasLinks (size K) (Seen K to z 0) c.loop-place.lists) e c.loop-place.invariant)
