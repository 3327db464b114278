use Rattle.std.proofs.Common.{◌≡◌, ◌++◌}
use Rattle.cg_list_laws.specs.Below.{lists_below}
use Rattle.cg_violations.specs.Cells.{cell_violation}
use Rattle.cg_violations.proofs.clashing.push_row.Given as goal

abbrev pub invariant-loop-slot : goal.invariant-loop-slot
invariant-loop-slot l = l.found.items ≡ l.fn.found.items ++ lists_below (cell_violation l.table l.ii l.rule l.resource) l.slot
