use Rattle.std.proofs.Common.{◌-◌, ◌≤◌, length}
use Rattle.std.specs.Prelude.{flat_map}
use Rattle.std.specs.List.{range_with_len}
use Rattle.cg_c_order.specs.Accesses.{forth_at}
use Rattle.cg_c_order.specs.Choosing.{Takes}
use Rattle.cg_c_order.proofs.forth.order_forth.Given as goal

-- the edges over the differences so far are chosen
abbrev pub invariant-loop-gap : goal.invariant-loop-gap
invariant-loop-gap l = record {
  far : l.gap - 1 ≤ length l.table - 1;
  chosen : Takes l.fn.draft (flat_map (forth_at l.table) (range_with_len 1 (l.gap - 1))) l.draft;
}
