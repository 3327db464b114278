use Rattle.std.proofs.Common.{◌≡◌, ◌++◌}
use Rattle.cg_list_laws.specs.Below.{lists_below}
use Rattle.cg_testbench.specs.Setup.{unit_lines}
use Rattle.cg_testbench.proofs.setup.push_units.Given as goal

abbrev pub invariant-loop-unit : goal.invariant-loop-unit
invariant-loop-unit g l =
    l.text.items ≡ l.fn.text.items ++ lists_below (unit_lines l.slot.arch.now (g.C.Contexts.config l.slot.contexts.now) l.slot.number) l.unit
