-- The texts of the fault in reports.
use Rattle.std.specs.Prelude.{ℕ, List, [], ◌++◌, codes, decimal}
use Rattle.cg_depend.specs.declared.fault.DependFault.{DependFault}
use Rattle.cg_depend.specs.declared.fault.DependFault.TheVariants as fault

-- the code, the name and the place
abbrev pub depend_fault_text : DependFault → List ℕ
depend_fault_text fault.Memory = []
depend_fault_text (fault.TooManyEdges n) = codes "Y1 TooManyEdges order " ++ decimal n
