use Rattle.std.proofs.Common.{◌+◌, cond, ltb, length, get_or, arith}
use Rattle.std.proofs.lemmas.List.FromFn.{fill_by_all}
use Rattle.cg_mrrg.specs.Nodes.{node_at}
use Rattle.cg_congestion.specs.Claims.{claims_at}
use Rattle.cg_congestion.specs.Plain.{plains}
use Rattle.cg_congestion.proofs.laws.age_all.Goals as goal

pub returns : goal.returns
returns c =
    let long = c.loop-place.auto.history in
    let all = c.loop-place-test.false in
    fill_by_all (λ k. get_or c.args.history.now k 0 + cond (ltb 1 (claims_at c.args.interval (plains c.args.positions.now) (node_at c.args.interval k))) 1 0) c.loop-place.history (length c.args.history.now) 0 long
    (λ k l. c.loop-place.invariant.done k (omega (arith, l, all)))
