use Rattle.std.proofs.Common.{◌≡◌, ◌++◌}
use Rattle.std.specs.Prelude.{slice_index}
use Rattle.cg_bits.specs.Numbers.{digit, bits_of}
use Rattle.cg_bits.specs.Parts.{joined}
use Rattle.cg_bits.proofs.writing.push_arg.Given as goal

abbrev pub invariant-loop-word : goal.invariant-loop-word
invariant-loop-word l = l.writer ≡ ((l.fn.writer ++ bits_of 1 (digit l.fn.arg.fixed)) ++ bits_of 3 l.fn.arg.count) ++ joined (λ k. bits_of 32 (slice_index l.fn.arg.init k)) l.word-index
