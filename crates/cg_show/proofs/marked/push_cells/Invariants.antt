use Rattle.std.proofs.Common.{◌≡◌, ◌++◌}
use Rattle.cg_list_laws.specs.Below.{lists_below}
use Rattle.cg_show.specs.Marked.{cell_in}
use Rattle.cg_show.proofs.marked.push_cells.Given as goal

abbrev pub invariant-loop-resource : goal.invariant-loop-resource
invariant-loop-resource l = l.text.items ≡ l.fn.text.items ++ lists_below (cell_in l.marks l.slot) l.resource
