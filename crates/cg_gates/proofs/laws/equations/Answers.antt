use Rattle.cg_gates.proofs.Solution.{run, agree}
use Rattle.cg_gates.proofs.laws.equations.Goals as goal

pub returns : goal.returns
returns c = record {
  solve = λ A N C n image graph ok. run A N C n image graph ok;
  one = λ A N C n image graph ok w v b d r s m l x y o p first second. agree A N C n image graph ok w v b d r s m l x y o p first second;
}
