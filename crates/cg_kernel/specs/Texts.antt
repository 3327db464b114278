-- The texts of kernel faults in reports.
use Rattle.std.specs.Prelude.{ℕ, List, [], ◌++◌, codes, decimal}
use Rattle.cg_kernel.specs.declared.fault.KernelPlace.{KernelPlace}
use Rattle.cg_kernel.specs.declared.fault.KernelPlace.TheVariants as place
use Rattle.cg_kernel.specs.declared.fault.KernelFault.{KernelFault}
use Rattle.cg_kernel.specs.declared.fault.KernelFault.TheVariants as fault

-- the place of a fault: the file, or the number of a node or order edge
abbrev pub place_text : KernelPlace → List ℕ
place_text place.File = codes "file"
place_text (place.Node v) = codes "nodes " ++ decimal v
place_text (place.Order e) = codes "order " ++ decimal e

-- the code and the name
abbrev pub kernel_fault_name : KernelFault → List ℕ
kernel_fault_name fault.Memory = []
kernel_fault_name fault.NotJson = codes "K1 NotJson"
kernel_fault_name (fault.WrongShape p) = codes "K2 WrongShape"
kernel_fault_name (fault.UnknownKey p) = codes "K3 UnknownKey"
kernel_fault_name fault.TooLarge = codes "K4 TooLarge"
kernel_fault_name (fault.BadName p) = codes "K5 BadName"
kernel_fault_name (fault.RepeatedName p) = codes "K6 RepeatedName"
kernel_fault_name (fault.UnknownOp p) = codes "K7 UnknownOp"
kernel_fault_name (fault.WrongOperandCount p) = codes "K8 WrongOperandCount"
kernel_fault_name (fault.UnknownNode p) = codes "K9 UnknownNode"
kernel_fault_name (fault.NoValue p) = codes "K10 NoValue"
kernel_fault_name (fault.BackEdgeWithoutDistance p) = codes "K11 BackEdgeWithoutDistance"
kernel_fault_name (fault.BadDistance p) = codes "K12 BadDistance"
kernel_fault_name (fault.InitCount p) = codes "K13 InitCount"
kernel_fault_name (fault.TwoConstants p) = codes "K14 TwoConstants"
kernel_fault_name (fault.BadPort p) = codes "K15 BadPort"
kernel_fault_name (fault.RepeatedOutputPort p) = codes "K16 RepeatedOutputPort"

-- the first place of the fault: the whole file where the fault has no place
abbrev pub kernel_fault_place : KernelFault → KernelPlace
kernel_fault_place fault.Memory = place.File
kernel_fault_place fault.NotJson = place.File
kernel_fault_place (fault.WrongShape p) = p
kernel_fault_place (fault.UnknownKey p) = p
kernel_fault_place fault.TooLarge = place.File
kernel_fault_place (fault.BadName p) = p
kernel_fault_place (fault.RepeatedName p) = p
kernel_fault_place (fault.UnknownOp p) = p
kernel_fault_place (fault.WrongOperandCount p) = p
kernel_fault_place (fault.UnknownNode p) = p
kernel_fault_place (fault.NoValue p) = p
kernel_fault_place (fault.BackEdgeWithoutDistance p) = p
kernel_fault_place (fault.BadDistance p) = p
kernel_fault_place (fault.InitCount p) = p
kernel_fault_place (fault.TwoConstants p) = p
kernel_fault_place (fault.BadPort p) = p
kernel_fault_place (fault.RepeatedOutputPort p) = p

-- the code, the name and the place
abbrev pub kernel_fault_text : KernelFault → List ℕ
kernel_fault_text f = kernel_fault_name f ++ (codes " " ++ place_text (kernel_fault_place f))
