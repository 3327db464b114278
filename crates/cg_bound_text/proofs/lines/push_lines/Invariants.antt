use Rattle.std.proofs.Common.{◌≡◌, ◌+◌, ◌++◌}
use Rattle.cg_bound_text.specs.Text.{lines_to}
use Rattle.cg_bound_text.proofs.lines.push_lines.Given as goal

abbrev pub invariant-loop-end : goal.invariant-loop-end
invariant-loop-end l =
    l.text.items ++ lines_to l.instance.arch.now l.instance.kernel.now l.instance.tables.now l.bounds l.end ≡ l.fn.text.items ++ lines_to l.instance.arch.now l.instance.kernel.now l.instance.tables.now l.bounds (l.instance.arch.now.contexts + 1)

abbrev pub decreases-loop-end : goal.decreases-loop-end
decreases-loop-end l = l.end
