use Rattle.std.proofs.Common.{◌≡◌, ◌≤◌}
use Rattle.cg_list_laws.specs.Below.{greatest_below}
use Rattle.cg_show_table.specs.Columns.{node_width}
use Rattle.cg_show_table.proofs.columns.cell_width.Given as goal

abbrev pub invariant-loop-node : goal.invariant-loop-node
invariant-loop-node l = (l.width ≡ greatest_below (node_width l.marks) l.node) × (l.width ≤ 60)
