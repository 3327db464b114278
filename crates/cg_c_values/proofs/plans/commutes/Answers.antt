use Rattle.cg_c_values.proofs.Truths.{exchanges}
use Rattle.cg_c_values.proofs.plans.commutes.Goals as goal

pub returns-in-Add : goal.returns-in-Add
returns-in-Add c _ = exchanges c.args.op c.in-Add.is
