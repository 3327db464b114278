use Rattle.std.proofs.Common.{sym, ap, ◌∙◌, arith}
use Rattle.cg_model.specs.declared.kernel.Node.{Node}
use Rattle.cg_simplify_order.proofs.Needed.{called}
use Rattle.cg_simplify_order.proofs.namesakes.namesakes_of.Goals as goal

pub number_from-last-requires-clause-called : goal.number_from-last-requires-clause-called
number_from-last-requires-clause-called c =
    called c.args.given.now c.args.rewritten.now c.nodes-given.result.now c.nodes-nodes.result.now c.loop-number.number c.index-nodes-number.result c.as_str.result.now c.requires c.nodes-given.ensures.nodes
    c.nodes-nodes.ensures.nodes (omega (arith, c.loop-number-test.true)) c.index-nodes-number.is (c.as_str.ensures ∙ ap (λ (z : Node). z.name) (sym c.index-nodes-number.is))
