use Rattle.std.proofs.Common.{◌-◌, ◌≤◌, length}
use Rattle.std.specs.Prelude.{flat_map, min, reverse}
use Rattle.std.specs.List.{range_with_len}
use Rattle.cg_c_order.specs.Accesses.{back_at}
use Rattle.cg_c_order.specs.Choosing.{Takes}
use Rattle.cg_c_order.proofs.back.order_back.Given as goal

-- the edges over the differences so far are chosen
abbrev pub invariant-loop-gap : goal.invariant-loop-gap
invariant-loop-gap l = record {
  low : min 1 (length l.table) ≤ l.gap;
  chosen : Takes l.fn.closing (flat_map (back_at l.table) (reverse (range_with_len l.gap (length l.table - l.gap)))) l.closing;
}
