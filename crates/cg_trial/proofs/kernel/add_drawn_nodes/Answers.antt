use Rattle.std.proofs.Common.{◌≡◌, ◌+◌, ◌-◌, ◌<◌, ◌++◌, ap, ◌∙◌, arith}
use Rattle.cg_trial.specs.Drawn.{drawn_nodes}
use Rattle.cg_trial.proofs.Drawing.{one_node, all_nodes}
use Rattle.cg_trial.proofs.kernel.add_drawn_nodes.Goals as goal

pub loop-k-preserved : goal.loop-k-preserved
loop-k-preserved c =
    let l : c.loop-k.k < c.args.count = omega arith in
    ap (λ z. z ++ drawn_nodes (c.args.first + (c.loop-k.k + 1)) (c.args.count - (c.loop-k.k + 1)) c.drawn_node.new.generator) c.in_ok-push.ensures.items
    ∙ one_node c.loop-k.nodes.items c.in_ok-drawn_node.field-0 c.loop-k.generator c.drawn_node.new.generator c.args.first c.args.count c.loop-k.k l
    c.in_ok-drawn_node.ensures.node c.in_ok-drawn_node.ensures.rest
    ∙ c.loop-k.invariant

pub returns : goal.returns
returns c = let l : c.args.count ≡ c.loop-k.k = omega arith in all_nodes c.loop-k.nodes.items c.loop-k.generator c.args.first c.args.count c.loop-k.k l ∙ c.loop-k.invariant
