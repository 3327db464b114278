use Rattle.cg_gates.proofs.Follow.{leaves_alike}
use Rattle.cg_gates.proofs.laws.leaves.Goals as goal

pub returns : goal.returns
returns c = λ A C n image is. leaves_alike A C n image is
