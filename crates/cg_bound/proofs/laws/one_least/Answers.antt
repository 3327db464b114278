use Rattle.cg_bound.proofs.Intervals.{one_mii, exactly_below}
use Rattle.cg_bound.proofs.laws.one_least.Goals as goal

pub returns-clause-one : goal.returns-clause-one
returns-clause-one c = λ A K m n. one_mii A K m n

pub returns-clause-below : goal.returns-clause-below
returns-clause-below c = λ A K m ii. exactly_below A K m ii
