use Rattle.cg_bound_registers.specs.declared.sums.Of.TheVariants.{Distance, Hops, One}
use Rattle.cg_bound_registers.proofs.Summed.{at_stays, at_pulls, at_ties, sum_along}
use Rattle.cg_bound_registers.proofs.check.along.Goals as goal

pub returns-clause-value : goal.returns-clause-value
returns-clause-value c =
    let K = c.args.kernel.now in
    let p = c.args.p.now in
    let hops = c.args.hops.now in
    sum_along c.args.ii c.sum_stays.result c.gains.result c.sum_pulls.result c.sum_ties.result _ _ _ _
    (at_stays K p hops Distance c.deref.result.now c.sum_stays.result c.sum_stays.ensures.value c.deref.ensures.value)
    c.gains.ensures.value
    (at_pulls K p hops Hops c.deref-2.result.now c.sum_pulls.result c.sum_pulls.ensures.value c.deref-2.ensures.value)
    (at_ties K p hops One c.deref-3.result.now c.sum_ties.result c.sum_ties.ensures.value c.deref-3.ensures.value)
