use Rattle.cg_bound_all.proofs.Always.{some_why}
use Rattle.cg_bound_all.proofs.laws.always_explained.Goals as goal

pub returns : goal.returns
returns c = some_why
