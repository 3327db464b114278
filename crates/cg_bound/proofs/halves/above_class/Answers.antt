use Rattle.std.proofs.Common.{◌≤◌, ◌+◌, refl, arith}
use Rattle.cg_bound.specs.declared.interval.Certificate.TheVariants.{Class}
use Rattle.cg_bound.proofs.Halving.{above_all, above_done}
use Rattle.cg_bound.proofs.halves.above_class.Goals as goal

pub loop-high-init : goal.loop-high-init
loop-high-init c =
    let r = c.requires in
    above_all c.args.arch.now c.args.kernel.now r.offered c.args.forbidden c.limit-high.result c.args.overfull c.limit-high.ensures.value r.some r.free r.overfull r.own

pub returns : goal.returns
returns c =
    let test = c.loop-high-test.false in
    let above = c.loop-high.invariant in
    let order = above.order in
    let last : c.loop-high.high ≤ c.loop-high.low + 1 = omega arith in
    above_done c.args.arch.now c.args.kernel.now c.requires.offered c.loop-high.low c.loop-high.high c.loop-high.set (Class c.loop-high.set) refl above last
