use Rattle.cg_gates.proofs.Follow.{words_follow}
use Rattle.cg_gates.proofs.laws.follows.Goals as goal

pub returns : goal.returns
returns c = λ A C n image is r t l. words_follow A C n image is r t l
