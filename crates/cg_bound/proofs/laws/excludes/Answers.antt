use Rattle.cg_bound.proofs.Legal.{not_forbidden}
use Rattle.cg_bound.proofs.laws.excludes.Goals as goal

pub returns : goal.returns
returns c = λ A K M good legal f. not_forbidden A K M good legal f
