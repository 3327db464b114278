use Rattle.std.proofs.Common.{subst, arith}
use Rattle.cg_bound_all.specs.Scan.{IsVerdict}
use Rattle.cg_bound_all.proofs.Scans.{least_begins, least_next, least_found, least_closed, least_none}
use Rattle.cg_bound_all.proofs.least.find_least.Goals as goal

pub loop-ii-init : goal.loop-ii-init
loop-ii-init c = least_begins c.args.arch.now c.args.kernel.now c.args.tables.now c.args.bounds.now c.first_unknown-from.result c.first_unknown-from.ensures.begin c.first_unknown-from.ensures.above

pub returns-in-Open : goal.returns-in-Open
returns-in-Open c =
    let e = c.contexts-end.ensures.contexts in
    let t = c.loop-ii-test.true in
    let s = c.first_unknown-from.ensures.begin.some in
    let l = c.loop-ii.auto.ii in
    least_found c.args.arch.now c.args.kernel.now c.args.tables.now c.args.bounds.now c.loop-ii.ii c.in_ok-reason.field-0 c.in-Open.times c.loop-ii.below c.in-Open.is (omega arith) (omega arith) c.in_ok-reason.ensures c.loop-ii.invariant

pub excludes_higher-requires : goal.excludes_higher-requires
excludes_higher-requires c = subst (IsVerdict c.args.arch.now c.args.kernel.now c.args.tables.now c.loop-ii.ii) c.in-Excluded.is c.in_ok-reason.ensures

pub returns-then-excludes_higher : goal.returns-then-excludes_higher
returns-then-excludes_higher c =
    let e = c.contexts-end.ensures.contexts in
    let t = c.loop-ii-test.true in
    least_closed c.args.arch.now c.args.kernel.now c.args.tables.now c.args.bounds.now c.loop-ii.ii c.in-Excluded.reason c.loop-ii.below (omega arith) (λ i l m. c.excludes_higher.ensures c.if-excludes_higher.true i l m) c.loop-ii.invariant

pub loop-ii-preserved : goal.loop-ii-preserved
loop-ii-preserved c =
    least_next c.args.arch.now c.args.kernel.now c.args.tables.now c.args.bounds.now c.loop-ii.ii c.in_ok-reason.field-0 c.in-Excluded.reason c.loop-ii.below c.in-Excluded.is c.in_ok-reason.ensures c.loop-ii.invariant

pub returns : goal.returns
returns c =
    let e = c.contexts-end.ensures.contexts in
    let t = c.loop-ii-test.false in
    let m = c.first_unknown-from.ensures.begin.within in
    let l = c.loop-ii.auto.ii-end (omega arith) in
    least_none c.args.arch.now c.args.kernel.now c.args.tables.now c.args.bounds.now c.loop-ii.ii c.loop-ii.below (omega arith) c.loop-ii.invariant
