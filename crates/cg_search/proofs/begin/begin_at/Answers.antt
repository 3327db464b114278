use Rattle.std.proofs.Common.{subst}
use Rattle.cg_bound_all.specs.Why.{IsExclusion}
use Rattle.cg_search.proofs.Begins.{begins_at, nowhere_at}
use Rattle.cg_search.proofs.begin.begin_at.Goals as goal

pub returns-in-Some : goal.returns-in-Some
returns-in-Some c =
    let A = c.args.arch.now in
    let K = c.args.kernel.now in
    let f = c.in_ok-tables.tables in
    nowhere_at A K f c.args.ii c.in-Some.reason c.in_ok-tables.ensures (subst (IsExclusion A K f c.args.ii) c.in-Some.is c.in_ok-reason.ensures)

pub returns-in-None : goal.returns-in-None
returns-in-None c =
    let A = c.args.arch.now in
    let K = c.args.kernel.now in
    let f = c.in_ok-tables.tables in
    begins_at A K f c.args.ii c.in_ok-tables.ensures (subst (IsExclusion A K f c.args.ii) c.in-None.is c.in_ok-reason.ensures)
