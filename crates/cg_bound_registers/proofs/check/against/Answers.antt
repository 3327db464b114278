use Rattle.std.proofs.Common.{[]}
use Rattle.cg_bound_registers.specs.declared.sums.Of.TheVariants.{Distance}
use Rattle.cg_bound_registers.proofs.Summed.{at_pulls, at_ties, sum_against}
use Rattle.cg_bound_registers.proofs.check.against.Goals as goal

pub returns-clause-value : goal.returns-clause-value
returns-clause-value c =
    let K = c.args.kernel.now in
    let p = c.args.p.now in
    sum_against c.args.ii c.sum_pulls.result c.sum_ties.result c.losses.result _ _ _
    (at_pulls K p [] Distance c.deref.result.now c.sum_pulls.result c.sum_pulls.ensures.value c.deref.ensures.value)
    (at_ties K p [] Distance c.deref-2.result.now c.sum_ties.result c.sum_ties.ensures.value c.deref-2.ensures.value)
    c.losses.ensures.value
