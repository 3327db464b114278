use Rattle.std.proofs.Common.{◌≡◌, drop}
use Rattle.cg_c_syntax.specs.Written.{exprs_of}
use Rattle.cg_c_check.specs.Arrays.{values_of}
use Rattle.cg_c_check.proofs.Words.{behind}
use Rattle.cg_c_check.proofs.arrays.values_of.Given as goal

-- the words so far, and those of the values that are left
abbrev pub invariant-loop-value : goal.invariant-loop-value
invariant-loop-value l = values_of l.names (exprs_of l.values) ≡ behind l.words.items (values_of l.names (exprs_of (drop l.value-index l.values)))
