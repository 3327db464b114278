use Rattle.std.proofs.Common.{◌≡◌, ◌++◌}
use Rattle.cg_list_laws.specs.Below.{lists_below}
use Rattle.cg_testbench.specs.Setup.{word_of_input}
use Rattle.cg_testbench.proofs.setup.push_input.Given as goal

abbrev pub invariant-loop-at : goal.invariant-loop-at
invariant-loop-at l = l.text.items ≡ l.fn.text.items ++ lists_below (word_of_input l.image.streams l.port) l.at
