use Rattle.std.proofs.Common.{subst}
use Rattle.cg_bound_all.specs.Why.{IsLeastWithout, IsImpossible}
use Rattle.cg_search.proofs.Begins.{begins_least}
use Rattle.cg_search.proofs.begin.begin_at_least.Goals as goal

pub returns-in-Some : goal.returns-in-Some
returns-in-Some c =
    let A = c.args.arch.now in
    let K = c.args.kernel.now in
    let f = c.in_ok-why.why.tables in
    let is = c.in_ok-why.ensures in
    begins_least A K f c.in-Some.least is.tables (subst (IsLeastWithout (IsImpossible A K f) A.contexts) c.in-Some.is is.least.least)

pub nowhere-requires-clause-each : goal.nowhere-requires-clause-each
nowhere-requires-clause-each c =
    let A = c.args.arch.now in
    subst (IsLeastWithout (IsImpossible A c.args.kernel.now c.in_ok-why.why.tables) A.contexts) c.in-None.is c.in_ok-why.ensures.least.least
