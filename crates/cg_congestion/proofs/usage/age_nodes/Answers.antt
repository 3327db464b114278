use Rattle.std.proofs.Common.{◌+◌, cond, ltb, List, [], length, get_or, arith}
use Rattle.std.proofs.lemmas.List.FromFn.{fill_by_all}
use Rattle.cg_congestion.specs.Kept.{ClaimUse}
use Rattle.cg_congestion.proofs.usage.age_nodes.Goals as goal

pub returns : goal.returns
returns c =
    let nodes : List (List ClaimUse) = c.args.nodes.now in
    let long = c.loop-node.auto.history in
    let each = c.requires.each in
    let all = c.loop-node-test.false in
    fill_by_all (λ k. get_or c.args.history.now k 0 + cond (ltb 1 (length (get_or nodes k []))) 1 0) c.loop-node.history (length nodes) 0 (omega (arith, long, each))
    (λ k l. c.loop-node.invariant.done k (omega (arith, l, all)))
