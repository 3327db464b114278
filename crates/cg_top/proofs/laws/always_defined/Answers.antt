use Rattle.cg_top.proofs.Defined.{always}
use Rattle.cg_top.proofs.laws.always_defined.Goals as goal

pub returns : goal.returns
returns c = always
