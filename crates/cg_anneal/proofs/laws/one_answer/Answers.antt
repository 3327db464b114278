use Rattle.cg_anneal.proofs.One.{one_time, one_answer}
use Rattle.cg_anneal.proofs.laws.one_answer.Goals as goal

pub returns : goal.returns
returns c = record { times = one_time; answer = one_answer }
