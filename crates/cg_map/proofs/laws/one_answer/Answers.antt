use Rattle.cg_map.proofs.Alike.{alike}
use Rattle.cg_map.proofs.laws.one_answer.Goals as goal

pub returns : goal.returns
returns c = λ A K asked seed moves a b arch kernel p q. alike A K arch kernel asked seed moves a b p q
