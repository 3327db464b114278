use Rattle.std.proofs.Common.{◌-◌}
use Rattle.std.specs.Prelude.{flat_map}
use Rattle.std.specs.List.{range_with_len}
use Rattle.cg_c_order.specs.Accesses.{forth_from}
use Rattle.cg_c_order.specs.Choosing.{Takes}
use Rattle.cg_c_order.proofs.forth.order_gap.Given as goal

-- the edges from the nodes so far are chosen
abbrev pub invariant-loop-node : goal.invariant-loop-node
invariant-loop-node l = Takes l.fn.draft (flat_map (forth_from l.table l.gap) (range_with_len 0 (l.node - 0))) l.draft
