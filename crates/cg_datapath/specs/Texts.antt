-- The report texts of the faults of runs.
use Rattle.std.specs.Prelude.{ℕ, List, [], ◌++◌, codes, decimal}
use Rattle.cg_datapath.specs.declared.fault.SimFault.{SimFault}
use Rattle.cg_datapath.specs.declared.fault.SimFault.TheVariants as sim

-- code, name and place
abbrev pub sim_fault_text : SimFault → List ℕ
sim_fault_text sim.Memory = []
sim_fault_text (sim.TooManyTurns n) = codes "S1 TooManyTurns turns " ++ decimal n
sim_fault_text (sim.ImageTooLarge n) = codes "S2 ImageTooLarge words " ++ decimal n
