use Rattle.std.proofs.Common.{arith}
use Rattle.cg_bound_all.specs.Why.{hops_at}
use Rattle.cg_bound_all.proofs.Reasons.{none_excludes, numbers_for}
use Rattle.cg_bound_all.proofs.laws.excludes.Goals as goal

pub returns : goal.returns
returns c = λ A K M f kind good all legal h. none_excludes A K M (hops_at f M.ii) good legal (numbers_for A K f M.ii (let a = legal.interval in omega arith) all).tables kind h
