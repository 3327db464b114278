use Rattle.cg_place.proofs.Scheduled.{excess_none, violations_none}
use Rattle.cg_place.proofs.laws.scheduled.Goals as goal

pub returns-clause-excess : goal.returns-clause-excess
returns-clause-excess c = λ A ii places some known. excess_none A ii places some known

pub returns-clause-violations : goal.returns-clause-violations
returns-clause-violations c = λ K ii places. violations_none K ii places
