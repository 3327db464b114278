use Rattle.cg_bound.proofs.Intervals.{certifies, unoffered_certifies}
use Rattle.cg_bound.proofs.laws.certifies.Goals as goal

pub returns-clause-shown : goal.returns-clause-shown
returns-clause-shown c = λ A K ii d. certifies A K ii d

pub returns-clause-unoffered : goal.returns-clause-unoffered
returns-clause-unoffered c = λ A K ii d. unoffered_certifies A K ii d
