use Rattle.std.proofs.Common.{◌≡◌, ◌≤◌}
use Rattle.cg_show_table.specs.Sizes.{starts_from}
use Rattle.cg_show_table.proofs.columns.starts.Given as goal

abbrev pub invariant-loop-slot : goal.invariant-loop-slot
invariant-loop-slot l = (l.sum ≡ starts_from l.marks l.unit l.first l.slot) × (l.sum ≤ l.slot)
