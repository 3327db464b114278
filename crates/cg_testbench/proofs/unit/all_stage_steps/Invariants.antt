use Rattle.std.proofs.Common.{◌≡◌, string_bytes}
use Rattle.cg_list_laws.specs.Below.{lists_below}
use Rattle.cg_testbench.specs.Unit.{stage_step}
use Rattle.cg_testbench.proofs.unit.all_stage_steps.Given as goal

abbrev pub invariant-loop-cycles : goal.invariant-loop-cycles
invariant-loop-cycles l = string_bytes l.text ≡ lists_below stage_step l.cycles
