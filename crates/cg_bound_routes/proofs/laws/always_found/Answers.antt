use Rattle.cg_bound_routes.proofs.Always.{some_table}
use Rattle.cg_bound_routes.proofs.laws.always_found.Goals as goal

pub returns : goal.returns
returns c = λ A K ii valid. some_table A valid K ii
