use Rattle.std.proofs.Common.{◌≡◌, ◌++◌, take}
use Rattle.cg_bound_text.specs.Text.{lines_above}
use Rattle.cg_bound_text.proofs.lines.push_lines_above.Given as goal

abbrev pub invariant-loop-bound : goal.invariant-loop-bound
invariant-loop-bound l = l.text.items ≡ l.fn.text.items ++ lines_above l.instance.arch.now l.instance.kernel.now l.instance.tables.now (take l.bound-index l.bounds) l.below
