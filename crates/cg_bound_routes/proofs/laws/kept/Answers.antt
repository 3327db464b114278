use Rattle.cg_bound_routes.proofs.Legal.{kept}
use Rattle.cg_bound_routes.proofs.laws.kept.Goals as goal

pub returns : goal.returns
returns c = λ A K M rows good legal ways. kept A K M good legal rows ways
