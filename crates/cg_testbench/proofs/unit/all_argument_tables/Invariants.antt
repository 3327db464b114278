use Rattle.std.proofs.Common.{◌≡◌, string_bytes}
use Rattle.cg_list_laws.specs.Below.{lists_below}
use Rattle.cg_testbench.specs.Unit.{argument_tables}
use Rattle.cg_testbench.proofs.unit.all_argument_tables.Given as goal

abbrev pub invariant-loop-argument : goal.invariant-loop-argument
invariant-loop-argument l = string_bytes l.text ≡ lists_below argument_tables l.argument
