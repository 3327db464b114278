use Rattle.std.proofs.Common.{◌≡◌, ◌++◌}
use Rattle.cg_list_laws.specs.Below.{lists_below}
use Rattle.cg_testbench.specs.Setup.{select_line}
use Rattle.cg_testbench.proofs.setup.push_selects.Given as goal

abbrev pub invariant-loop-resource : goal.invariant-loop-resource
invariant-loop-resource g l =
    l.text.items ≡ l.fn.text.items ++ lists_below (select_line l.slot.arch.now (g.C.Contexts.config l.slot.contexts.now) l.slot.number) l.resource
