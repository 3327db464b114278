use Rattle.std.proofs.Common.{◌≡◌, sym, subst, refl}
use Rattle.cg_walk_spec.specs.Walk.{unrouted_start}
use Rattle.cg_anneal.specs.Walking.{Walking}
use Rattle.cg_anneal.proofs.Reached.{starts}
use Rattle.cg_anneal.proofs.finding.begin.Goals as goal

pub route_first-requires : goal.route_first-requires
route_first-requires c =
    subst (λ (X : Walking). X.state ≡ unrouted_start X.arch X.kernel X.ii X.early) (sym c.in_ok-walk.ensures) refl

pub returns-clause-same : goal.returns-clause-same
returns-clause-same c =
    let T = c.args.task.now in
    (starts T.arch T.kernel T.ii T.early c.in_ok-walk.walk c.route_first.new.walk c.in_ok-walk.ensures c.in_ok-route_first.ensures).0

pub returns-clause-start : goal.returns-clause-start
returns-clause-start c =
    let T = c.args.task.now in
    (starts T.arch T.kernel T.ii T.early c.in_ok-walk.walk c.route_first.new.walk c.in_ok-walk.ensures c.in_ok-route_first.ensures).1
