use Rattle.std.proofs.Common.{◌+◌, ◌-◌, ◌/◌, refl, arith}
use Rattle.cg_bound_all.proofs.Reasons.{numbers_for}
use Rattle.cg_bound_all.proofs.Halves.{raised, lowered, between_ends}
use Rattle.cg_bound_all.proofs.bounds.halve.Goals as goal

pub find_at-requires-clause-numbers : goal.find_at-requires-clause-numbers
find_at-requires-clause-numbers c =
    let middle = c.loop-low.low + (c.loop-low.high - c.loop-low.low) / 2 in
    let s = c.loop-low.invariant.some in
    numbers_for c.args.search.instance.arch.now c.args.search.instance.kernel.now c.args.search.instance.tables.now middle (omega arith) c.requires.numbers

pub loop-low-preserved-in-Some : goal.loop-low-preserved-in-Some
loop-low-preserved-in-Some c =
    let t = c.loop-low-test.true in
    raised c.args.search.instance.arch.now c.args.search.instance.kernel.now c.args.search.instance.tables.now c.args.search.kind c.loop-low.low c.loop-low.high c.loop-low.below c.loop-low.invariant _ (omega arith) (omega arith) c.requires.numbers _ c.in_ok-reason.field-0 c.in-Some.reason refl c.in-Some.is c.in_ok-reason.ensures

pub loop-low-preserved : goal.loop-low-preserved
loop-low-preserved c =
    let t = c.loop-low-test.true in
    lowered c.args.search.instance.arch.now c.args.search.instance.kernel.now c.args.search.instance.tables.now c.args.search.kind c.loop-low.low c.loop-low.high c.loop-low.below c.loop-low.invariant _ (omega arith) (omega arith) c.requires.numbers _ c.in_ok-reason.field-0 refl c.in-None.is c.in_ok-reason.ensures

pub returns-clause-bound : goal.returns-clause-bound
returns-clause-bound c =
    let t = c.loop-low-test.false in
    between_ends c.args.search.instance.arch.now c.args.search.instance.kernel.now c.args.search.instance.tables.now c.args.search.kind c.loop-low.low c.loop-low.high c.loop-low.below c.loop-low.invariant (omega arith)
