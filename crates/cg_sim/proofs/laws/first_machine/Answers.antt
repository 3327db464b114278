use Rattle.cg_sim.proofs.First.{machines_agree, first_of_canonical}
use Rattle.cg_sim.proofs.laws.first_machine.Goals as goal

pub returns : goal.returns
returns c = record { same = machines_agree; canonical = first_of_canonical }
