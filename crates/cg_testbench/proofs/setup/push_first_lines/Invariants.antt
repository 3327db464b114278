use Rattle.std.proofs.Common.{◌≡◌, ◌++◌}
use Rattle.cg_list_laws.specs.Below.{lists_below}
use Rattle.cg_testbench.specs.Setup.{first_line}
use Rattle.cg_testbench.proofs.setup.push_first_lines.Given as goal

abbrev pub invariant-loop-k : goal.invariant-loop-k
invariant-loop-k l =
    l.text.items ≡ l.fn.text.items ++ lists_below (first_line l.argument.cell.now l.argument.slot l.argument.number l.fields) l.k
