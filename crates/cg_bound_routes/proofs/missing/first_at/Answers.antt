use Rattle.std.proofs.Common.{length, sym, ap, ◌∙◌, arith}
use Rattle.std.proofs.lemmas.Bool.{false≢true}
use Rattle.cg_model.specs.Kernel.{Kernel}
use Rattle.cg_bound_routes.proofs.Rows.{node_read, operands_read}
use Rattle.cg_bound_routes.proofs.Tables.{least_missing, none_missing, present_more}
use Rattle.cg_bound_routes.proofs.missing.first_at.Goals as goal

pub returns-then-is_missing : goal.returns-then-is_missing
returns-then-is_missing c =
    least_missing c.args.kernel.now c.args.ways.now c.args.node c.loop-arg.arg c.loop-arg.invariant (c.is_missing.ensures.0 c.if-is_missing.true)

pub loop-arg-preserved : goal.loop-arg-preserved
loop-arg-preserved c =
    present_more c.args.kernel.now c.args.ways.now c.args.node c.loop-arg.arg c.loop-arg.invariant (λ missing. false≢true (sym c.if-is_missing.false ∙ c.is_missing.ensures.1 missing))

pub returns : goal.returns
returns c =
    let K : Kernel = c.args.kernel.now in
    let read = node_read K c.nodes.result.now c.args.node c.index-nodes-node.result c.nodes.ensures.nodes c.requires c.index-nodes-node.is in
    let e = ap length (operands_read K c.args.node c.index-nodes-node.result c.as_slice-operands.result.now read (c.as_slice-operands.ensures ∙ ap (λ z. z.operands) (sym c.index-nodes-node.is))) in
    none_missing K c.args.ways.now c.args.node c.loop-arg.arg c.loop-arg.invariant (omega arith)
