use Rattle.std.proofs.Common.{◌≡◌, string_bytes}
use Rattle.cg_list_laws.specs.Below.{lists_below}
use Rattle.cg_testbench.specs.Unit.{word_zeros}
use Rattle.cg_testbench.proofs.unit.all_word_zeros.Given as goal

abbrev pub invariant-loop-argument : goal.invariant-loop-argument
invariant-loop-argument l = string_bytes l.text ≡ lists_below word_zeros l.argument
