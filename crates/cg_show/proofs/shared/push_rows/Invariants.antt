use Rattle.std.proofs.Common.{◌≡◌, ◌++◌}
use Rattle.cg_list_laws.specs.Below.{lists_below}
use Rattle.cg_show.specs.Panels.{row_part}
use Rattle.cg_show.proofs.shared.push_rows.Given as goal

abbrev pub invariant-loop-resource : goal.invariant-loop-resource
invariant-loop-resource l = l.text.items ≡ l.fn.text.items ++ lists_below (row_part l.marks) l.resource
