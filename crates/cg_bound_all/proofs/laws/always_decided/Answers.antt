use Rattle.cg_bound_all.proofs.Decided.{decided}
use Rattle.cg_bound_all.proofs.laws.always_decided.Goals as goal

pub returns : goal.returns
returns c = λ A K hops ii arch good near interval. decided A K hops ii arch good near interval
