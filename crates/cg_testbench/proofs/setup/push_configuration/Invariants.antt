use Rattle.std.proofs.Common.{◌≡◌, ◌++◌}
use Rattle.cg_list_laws.specs.Below.{lists_below}
use Rattle.cg_testbench.specs.Setup.{slot_lines}
use Rattle.cg_testbench.proofs.setup.push_configuration.Given as goal

abbrev pub invariant-loop-number : goal.invariant-loop-number
invariant-loop-number g l = l.text.items ≡ l.fn.text.items ++ lists_below (slot_lines l.arch (g.C.Contexts.config l.contexts)) l.number
