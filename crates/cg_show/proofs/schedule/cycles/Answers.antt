use Rattle.std.proofs.Common.{◌≡◌, ◌+◌, max, ◌∙◌, ap, length, arith}
use Rattle.cg_model.specs.Kernel.{size}
use Rattle.cg_list_laws.specs.Below.{greatest_below}
use Rattle.cg_show.specs.Schedule.{cycles, end_of}
use Rattle.cg_show.proofs.Steps.{greatest_more, greatest_none, greater_is}
use Rattle.cg_show.proofs.schedule.cycles.Goals as goal

pub loop-node-init : goal.loop-node-init
loop-node-init c = (greatest_none (end_of c.args.marks.now), omega arith)

pub loop-node-preserved : goal.loop-node-preserved
loop-node-preserved c =
    let m = c.args.marks.now in
    let end : c.from.result + c.from-in-loop-node.result ≡ end_of m c.loop-node.node = cc in
    let most : c.max-most.result ≡ max c.loop-node.most (c.from.result + c.from-in-loop-node.result) =
    c.max-most.ensures ∙ greater_is c.loop-node.most (c.from.result + c.from-in-loop-node.result) in
    (greatest_more (end_of m) c.loop-node.node c.loop-node.most _ c.loop-node.invariant.0 (most ∙ ap (max c.loop-node.most) end), omega (arith, most))

pub returns-clause-value : goal.returns-clause-value
unfolding cycles
returns-clause-value c =
    let m = c.args.marks.now in
    let nodes = ap length (c.nodes-node-end.ensures.nodes ∙ ap (λ z. z.nodes) c.kernel.ensures.kernel) in
    let last : c.loop-node.node ≡ size m.kernel = omega (arith, nodes) in
    c.loop-node.invariant.0 ∙ ap (greatest_below (end_of m)) last
