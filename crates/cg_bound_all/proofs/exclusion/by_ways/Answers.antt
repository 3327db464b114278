use Rattle.cg_bound_all.proofs.Reasons.{no_ways}
use Rattle.cg_bound_all.proofs.exclusion.by_ways.Goals as goal

pub returns-in-None : goal.returns-in-None
returns-in-None c =
    no_ways c.args.arch.now c.args.kernel.now c.args.ii c.args.numbers.now c.deref.result.now c.in_ok-ids.field-0 c.requires c.in_default.is c.deref.ensures.value c.in-None.is c.in_ok-ids.ensures
