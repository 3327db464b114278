use Rattle.std.proofs.Common.{sym, subst}
use Rattle.std.specs.Prelude.{IfOk}
use Rattle.cg_walk_spec.specs.Walk.{IsStart}
use Rattle.cg_anneal.specs.Walking.{Walking}
use Rattle.cg_anneal.specs.Ended.{IsWalkedFrom}
use Rattle.cg_anneal.proofs.finding.walk_over.Goals as goal

pub end_of-requires-clause-start : goal.end_of-requires-clause-start
end_of-requires-clause-start g c =
    let W = c.in_ok-walk.walk in
    subst (λ (X : Walking). IsStart X.arch X.kernel X.ii X.early W.state) (sym c.in_ok-walk.ensures.same) c.in_ok-walk.ensures.start

pub returns : goal.returns
returns g c =
    subst (λ (X : Walking). IfOk c.end_of.result (IsWalkedFrom X.arch X.kernel X.ii X.early c.args.request.seed c.args.request.moves)) c.in_ok-walk.ensures.same c.end_of.ensures
