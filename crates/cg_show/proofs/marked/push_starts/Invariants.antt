use Rattle.std.proofs.Common.{◌≡◌, ◌++◌}
use Rattle.cg_list_laws.specs.Below.{lists_below}
use Rattle.cg_show.specs.Marked.{start_in}
use Rattle.cg_show.proofs.marked.push_starts.Given as goal

abbrev pub invariant-loop-unit : goal.invariant-loop-unit
invariant-loop-unit l = l.text.items ≡ l.fn.text.items ++ lists_below (start_in l.scene.marks.now l.slot) l.unit
