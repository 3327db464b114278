use Rattle.std.proofs.Common.{◌≡◌, string_bytes}
use Rattle.cg_list_laws.specs.Below.{lists_below}
use Rattle.cg_testbench.specs.Pieces.{driver_choice}
use Rattle.cg_testbench.proofs.pieces.driver_choices.Given as goal

abbrev pub invariant-loop-driver : goal.invariant-loop-driver
invariant-loop-driver l = string_bytes l.text ≡ lists_below driver_choice l.driver
