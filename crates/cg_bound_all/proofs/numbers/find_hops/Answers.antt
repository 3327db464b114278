use Rattle.cg_bound_all.proofs.Reasons.{same_numbers}
use Rattle.cg_bound_all.proofs.numbers.find_hops.Goals as goal

pub returns : goal.returns
returns c = record { first = c.in_ok-first.ensures; rest = λ ii l. same_numbers c.args.arch.now c.args.kernel.now ii c.in_ok-rest.rest l c.in_ok-rest.ensures }
