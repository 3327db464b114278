use Rattle.std.proofs.Common.{inl, inr, subst}
use Rattle.std.specs.Prelude.{MatchOption}
use Rattle.cg_recur.specs.Recurrences as recur
use Rattle.cg_class.specs.Class.{IsOverfull, AreOfNodes}
use Rattle.cg_bound.specs.Bound.{HasNoOverfull}
use Rattle.cg_bound.proofs.Legal.{excluded}
use Rattle.cg_bound.proofs.Intervals.{one_shown, unoffered_certifies, certified}
use Rattle.cg_bound.proofs.interval.verdict.Goals as goal

pub returns-in-Some-clause-accepted : goal.returns-in-Some-clause-accepted
returns-in-Some-clause-accepted c =
    let A = c.args.arch.now in
    let K = c.args.kernel.now in
    unoffered_certifies A K c.args.ii c.class_of.result (one_shown A K c.in-Some.op c.class_of.result c.in-Some.ensures c.class_of.ensures)

pub returns-in-Some-clause-excludes : goal.returns-in-Some-clause-excludes
returns-in-Some-clause-excludes c =
    let A = c.args.arch.now in
    let K = c.args.kernel.now in
    let shown = one_shown A K c.in-Some.op c.class_of.result c.in-Some.ensures c.class_of.ensures in
    excluded A K c.args.ii c.nodes-nodes.ensures.valid (certified A K c.args.ii c.class_of.result (unoffered_certifies A K c.args.ii c.class_of.result shown))

pub returns-in-Cycle-clause-excludes : goal.returns-in-Cycle-clause-excludes
returns-in-Cycle-clause-excludes c =
    let A = c.args.arch.now in
    let K = c.args.kernel.now in
    let answer = subst (recur.IsAnswer A K c.args.ii) c.in-Cycle.is c.in_ok-ids.ensures in
    excluded A K c.args.ii c.nodes-nodes.ensures.valid (inl (c.in-Cycle.ids.items, answer.0))

pub returns-in-Some-2-clause-excludes : goal.returns-in-Some-2-clause-excludes
returns-in-Some-2-clause-excludes c =
    let A = c.args.arch.now in
    let K = c.args.kernel.now in
    let answer = subst (λ o. MatchOption o (HasNoOverfull A K c.args.ii) (λ set. IsOverfull A K c.args.ii set × AreOfNodes K set)) c.in-Some-2.is c.in_ok-set-in-Times.ensures in
    excluded A K c.args.ii c.nodes-nodes.ensures.valid (inr (c.in-Some-2.set, answer.0))
