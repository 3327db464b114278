use Rattle.std.proofs.Common.{◌≡◌, ◌++◌}
use Rattle.cg_list_laws.specs.Below.{lists_below}
use Rattle.cg_violations.specs.Cells.{row_violations}
use Rattle.cg_violations.proofs.clashing.push_table.Given as goal

abbrev pub invariant-loop-resource : goal.invariant-loop-resource
invariant-loop-resource l = l.found.items ≡ l.fn.found.items ++ lists_below (row_violations l.table l.ii l.rule) l.resource
