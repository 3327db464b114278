use Rattle.std.proofs.Common.{Some, subst, arith}
use Rattle.cg_bound_all.specs.Why.{IsExclusion}
use Rattle.cg_search.proofs.Begins.{nowhere_least}
use Rattle.cg_search.proofs.begin.nowhere.Goals as goal

pub returns : goal.returns
returns c =
    let A = c.args.arch.now in
    let K = c.args.kernel.now in
    let f = c.args.tables in
    let is = subst (IsExclusion A K f c.contexts-last.result) c.in-Some.is c.in_ok-reason.ensures in
    nowhere_least A K f c.in-Some.reason c.contexts-last.result c.contexts-last.ensures.contexts c.requires.numbers c.requires.each
    (subst (λ ii. IsExclusion A K f ii (Some c.in-Some.reason)) c.contexts-last.ensures.contexts is)

pub unreachable-requires : goal.unreachable-requires
unreachable-requires c =
    let A = c.args.arch.now in
    let last = c.contexts-last.result in
    let same = c.contexts-last.ensures.contexts in
    let some = c.contexts-last.ensures.valid.small.contexts.0 in
    let free = subst (IsExclusion A c.args.kernel.now c.args.tables last) c.in-None.is c.in_ok-reason.ensures in
    free (c.requires.each last (omega (arith, same, some)) (omega (arith, same)))
