use Rattle.std.proofs.Common.{◌≡◌, ◌++◌}
use Rattle.cg_list_laws.specs.Below.{lists_below}
use Rattle.cg_testbench.specs.Array.{trace_line}
use Rattle.cg_testbench.proofs.array.push_trace_lines.Given as goal

abbrev pub invariant-loop-resource : goal.invariant-loop-resource
invariant-loop-resource l = l.text.items ≡ l.fn.text.items ++ lists_below (trace_line l.arch) l.resource-index
