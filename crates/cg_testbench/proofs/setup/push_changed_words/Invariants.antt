use Rattle.std.proofs.Common.{◌≡◌, ◌++◌}
use Rattle.cg_list_laws.specs.Below.{lists_below}
use Rattle.cg_testbench.specs.Setup.{changed_word}
use Rattle.cg_testbench.proofs.setup.push_changed_words.Given as goal

abbrev pub invariant-loop-at : goal.invariant-loop-at
invariant-loop-at l = l.text.items ≡ l.fn.text.items ++ lists_below (changed_word l.before l.after) l.at
