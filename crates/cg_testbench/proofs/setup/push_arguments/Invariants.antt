use Rattle.std.proofs.Common.{◌≡◌, ◌++◌}
use Rattle.cg_list_laws.specs.Below.{lists_below}
use Rattle.cg_testbench.specs.Setup.{argument_lines}
use Rattle.cg_testbench.proofs.setup.push_arguments.Given as goal

abbrev pub invariant-loop-number : goal.invariant-loop-number
invariant-loop-number l = l.text.items ≡ l.fn.text.items ++ lists_below (argument_lines l.cell l.slot l.fields) l.number
