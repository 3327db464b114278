-- The result of checking the names and the ports of a text.
use Rattle.std.specs.Prelude.{◌≡◌, Option, Some}
use Rattle.cg_loop_syntax.specs.declared.fault.LoopFault.{LoopFault}
use Rattle.cg_loop_syntax.specs.declared.fault.LoopFault.TheVariants.{Memory}

-- out of memory, or this fault
abbrev pub IsFaultOf : LoopFault → Option LoopFault → Type 0
IsFaultOf Memory found = Unit {0}
IsFaultOf e found = found ≡ Some e
