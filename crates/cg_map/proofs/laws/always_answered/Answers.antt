use Rattle.cg_map.proofs.Alike.{legal}
use Rattle.cg_map.proofs.Always.{some_answer}
use Rattle.cg_map.proofs.laws.always_answered.Goals as goal

pub returns-clause-some : goal.returns-clause-some
returns-clause-some c = λ A K asked seed moves arch kernel is. some_answer A K arch kernel asked seed moves is

pub returns-clause-legal : goal.returns-clause-legal
returns-clause-legal c = λ A K asked seed moves m way arch kernel is p. legal A K arch kernel asked seed moves is m way p
