use Rattle.cg_bound_routes.proofs.Legal.{no_way}
use Rattle.cg_bound_routes.proofs.laws.no_way.Goals as goal

pub returns : goal.returns
returns c = λ A K M v p u d init good legal. no_way A K M good legal v p u d init
