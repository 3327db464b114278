use Rattle.std.proofs.Common.{◌≡◌, length, sym, ap, ◌∙◌, subst, arith}
use Rattle.cg_model.specs.Kernel.{Kernel, node}
use Rattle.cg_bound_routes.specs.Question.{IsRow}
use Rattle.cg_bound_routes.proofs.Rows.{node_read, operands_read, row_whole}
use Rattle.cg_bound_routes.proofs.ways.row_of.Goals as goal

pub returns-clause-row : goal.returns-clause-row
returns-clause-row c =
    let K : Kernel = c.args.instance.kernel.now in
    let read = node_read K c.nodes.result.now c.args.node c.index-nodes-node.result c.nodes.ensures.nodes c.requires.node c.index-nodes-node.is in
    let e = ap length (operands_read K c.args.node c.index-nodes-node.result c.as_slice-operands.result.now read (c.as_slice-operands.ensures ∙ ap (λ z. z.operands) (sym c.index-nodes-node.is))) in
    let over : c.loop-arg.arg ≡ length (node K c.args.node).operands = omega arith in
    subst (IsRow c.args.instance.arch.now K c.args.instance.ii c.args.node) (sym c.new.ensures) (row_whole c.args.instance.arch.now K c.args.instance.ii c.args.node c.loop-arg.arg c.loop-arg.row.items c.loop-arg.invariant.row over)
