use Rattle.std.proofs.Common.{◌≡◌, []}
use Rattle.cg_bits.specs.Parts.{joined}
use Rattle.cg_bits.specs.Checks.{word_fault}
use Rattle.cg_bits.proofs.rules.arg_breach.Given as goal

abbrev pub invariant-loop-k : goal.invariant-loop-k
invariant-loop-k l = joined (word_fault l.arg l.used l.at) l.k ≡ []
