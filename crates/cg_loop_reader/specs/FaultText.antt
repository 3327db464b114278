-- The report texts of the faults of loop bodies: code, name and place.
use Rattle.std.specs.Prelude.{ℕ, List, [], ◌++◌, codes, decimal}
use Rattle.cg_loop_syntax.specs.declared.fault.Excess.TheVariants as excess
use Rattle.cg_loop_syntax.specs.declared.fault.LoopFault.{LoopFault}
use Rattle.cg_loop_syntax.specs.declared.fault.LoopFault.TheVariants as fault

abbrev pub loop_fault_text : LoopFault → List ℕ
loop_fault_text fault.Memory = []
loop_fault_text (fault.Text place) = codes "Q1 Text byte " ++ decimal place
loop_fault_text (fault.UnknownName place) = codes "Q2 UnknownName byte " ++ decimal place
loop_fault_text (fault.RepeatedName place) = codes "Q3 RepeatedName byte " ++ decimal place
loop_fault_text (fault.CarryAssign place) = codes "Q4 CarryAssign byte " ++ decimal place
loop_fault_text (fault.BadArray place) = codes "Q5 BadArray byte " ++ decimal place
loop_fault_text (fault.BadPort place) = codes "Q6 BadPort byte " ++ decimal place
loop_fault_text (fault.TooLarge (excess.Nodes count)) = codes "Q7 TooLarge nodes " ++ decimal count
loop_fault_text (fault.TooLarge (excess.Order count)) = codes "Q7 TooLarge order " ++ decimal count
