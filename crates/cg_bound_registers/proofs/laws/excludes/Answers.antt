use Rattle.cg_bound_registers.proofs.Legal.{no_pressure, no_plain_pressure}
use Rattle.cg_bound_registers.proofs.laws.excludes.Goals as goal

pub returns-clause-kept : goal.returns-clause-kept
returns-clause-kept c = no_pressure

pub returns-clause-plain : goal.returns-clause-plain
returns-clause-plain c = no_plain_pressure
