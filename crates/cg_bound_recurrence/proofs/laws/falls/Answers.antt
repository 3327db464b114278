use Rattle.cg_recur.proofs.Chains.{fades}
use Rattle.cg_bound_recurrence.specs.WayCycles.{edge_with}
use Rattle.cg_bound_recurrence.proofs.laws.falls.Goals as goal

pub returns : goal.returns
returns c = λ A K hops i j ids le long. fades (edge_with A K hops) j i ids le long
