-- The meaning of a fault for the resources.
use Rattle.std.specs.Prelude.{List}
use Rattle.cg_model.specs.declared.array.Resource.{Resource}
use Rattle.cg_levelize.specs.declared.fault.OrderFault.{OrderFault}
use Rattle.cg_levelize.specs.declared.fault.OrderFault.TheVariants.{Memory, CombinationalLoop}
use Rattle.cg_levelize.specs.Topological.{IsCombinationalLoop}

-- a fault of these resources: a loop is one of their loops; out of memory says nothing about them
abbrev pub IsFaultOf : List Resource → OrderFault → Type 0
IsFaultOf rs Memory = Unit {0}
IsFaultOf rs (CombinationalLoop loop) = IsCombinationalLoop rs loop
