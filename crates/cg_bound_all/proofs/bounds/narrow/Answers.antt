use Rattle.std.proofs.Common.{◌+◌, ◌-◌, ◌/◌, refl, arith}
use Rattle.cg_bound_all.proofs.Reasons.{numbers_for}
use Rattle.cg_bound_all.proofs.Halves.{closing_begins, closing_raised, closing_lowered, closing_opened, closing_ends}
use Rattle.cg_bound_all.proofs.bounds.narrow.Goals as goal

pub loop-low-init : goal.loop-low-init
loop-low-init c = closing_begins c.args.search.instance.arch.now c.args.search.instance.kernel.now c.args.search.instance.tables.now c.args.search.kind c.contexts-high.result c.args.first c.args.last c.contexts-high.ensures.contexts c.requires.first c.requires.last c.requires.several

pub find_at-requires-clause-numbers : goal.find_at-requires-clause-numbers
find_at-requires-clause-numbers c =
    let middle = c.loop-low.low + (c.loop-low.high - c.loop-low.low) / 2 in
    let s = c.loop-low.invariant.some in
    numbers_for c.args.search.instance.arch.now c.args.search.instance.kernel.now c.args.search.instance.tables.now middle (omega arith) c.requires.numbers

pub halve-requires-clause-between : goal.halve-requires-clause-between
halve-requires-clause-between c =
    let t = c.loop-low-test.true in
    closing_opened c.args.search.instance.arch.now c.args.search.instance.kernel.now c.args.search.instance.tables.now c.args.search.kind c.loop-low.low c.loop-low.high c.loop-low.below c.loop-low.above c.loop-low.invariant _ (omega arith) (omega arith) _ c.in_ok-reason.field-0 refl c.in_ok-reason.ensures c.in_default.is

pub loop-low-preserved-then-excludes_lower : goal.loop-low-preserved-then-excludes_lower
loop-low-preserved-then-excludes_lower c =
    let t = c.loop-low-test.true in
    closing_raised c.args.search.instance.arch.now c.args.search.instance.kernel.now c.args.search.instance.tables.now c.args.search.kind c.loop-low.low c.loop-low.high c.loop-low.below c.loop-low.above c.loop-low.invariant _ (omega arith) (omega arith) _ c.in_ok-reason.field-0 refl c.in_ok-reason.ensures c.in-Some.reason c.in-Some.is (c.excludes_lower.ensures.lower c.if-excludes_lower.true)

pub loop-low-preserved : goal.loop-low-preserved
loop-low-preserved c =
    let t = c.loop-low-test.true in
    closing_lowered c.args.search.instance.arch.now c.args.search.instance.kernel.now c.args.search.instance.tables.now c.args.search.kind c.loop-low.low c.loop-low.high c.loop-low.below c.loop-low.above c.loop-low.invariant _ (omega arith) (omega arith) _ c.in_ok-reason.field-0 refl c.in_ok-reason.ensures c.in-Some.reason c.in-Some.is (c.excludes_lower.ensures.higher c.if-excludes_lower.false)

pub returns-clause-bound : goal.returns-clause-bound
returns-clause-bound c =
    let t = c.loop-low-test.false in
    closing_ends c.args.search.instance.arch.now c.args.search.instance.kernel.now c.args.search.instance.tables.now c.args.search.kind c.loop-low.low c.loop-low.high c.loop-low.below c.loop-low.above c.loop-low.invariant (omega arith)
