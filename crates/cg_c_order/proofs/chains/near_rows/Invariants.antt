use Rattle.std.proofs.Common.{take}
use Rattle.cg_c_order.specs.Chains.{Leads}
use Rattle.cg_c_order.specs.Marks.{IsTable}
use Rattle.cg_c_order.proofs.chains.near_rows.Given as goal

abbrev pub invariant-loop-place : goal.invariant-loop-place
invariant-loop-place l = IsTable l.size (Leads (take l.place l.edges)) l.near.items
