use Rattle.cg_bound_routes.proofs.Legal.{keeps_hops}
use Rattle.cg_bound_routes.proofs.laws.keeps_hops.Goals as goal

pub returns : goal.returns
returns c = λ A K M good legal. keeps_hops A K M good legal
