use Rattle.cg_bound.proofs.Always.{some_bound}
use Rattle.cg_bound.proofs.laws.always_bounded.Goals as goal

pub returns : goal.returns
returns c = λ A K arch valid. some_bound A K arch valid
