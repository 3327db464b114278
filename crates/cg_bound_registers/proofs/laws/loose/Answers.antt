use Rattle.cg_bound_registers.proofs.Excluded.{not_loose}
use Rattle.cg_bound_registers.proofs.laws.loose.Goals as goal

pub returns : goal.returns
returns c = not_loose
