-- When the kernel of a loop is too large.
use Rattle.std.specs.Prelude.{◌≡◌, nat_lt, if◌then◌else◌, length, Option, Some, None, Result, Ok, Err}
use Rattle.cg_model.specs.Limits.{most_nodes, most_order_edges}
use Rattle.cg_model.specs.Kernel.{Kernel, size}
use Rattle.cg_loop_syntax.specs.declared.fault.Excess.{Excess}
use Rattle.cg_loop_syntax.specs.declared.fault.Excess.TheVariants.{Nodes, Order}
use Rattle.cg_loop_syntax.specs.declared.fault.LoopFault.{LoopFault}
use Rattle.cg_loop_syntax.specs.declared.fault.LoopFault.TheVariants.{Memory, TooLarge}

-- what it has too many of, with their number: nodes, or else order edges
abbrev pub excess_of : Kernel → Option Excess
excess_of K =
    if nat_lt most_nodes (size K) then Some (Nodes (size K))
    else (if nat_lt most_order_edges (length K.order) then Some (Order (length K.order)) else None)

-- Q7
abbrev pub IsKernelFault : LoopFault → Kernel → Type 0
IsKernelFault Memory K = Unit {0}
IsKernelFault (TooLarge x) K = excess_of K ≡ Some x
IsKernelFault _ K = ⊥

-- the answer is this excess, or out of memory
abbrev pub GivesExcess : {T : Type 0} → Excess → Result T LoopFault → Type 0
GivesExcess x (Ok kernel) = ⊥
GivesExcess x (Err Memory) = Unit {0}
GivesExcess x (Err (TooLarge y)) = x ≡ y
GivesExcess x (Err _) = ⊥
