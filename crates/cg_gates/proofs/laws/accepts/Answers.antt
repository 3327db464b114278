use Rattle.cg_gates.proofs.Own.{accepted}
use Rattle.cg_gates.proofs.laws.accepts.Goals as goal

pub returns : goal.returns
returns c = λ A is. accepted A is
