use Rattle.std.proofs.Common.{◌≡◌, ℕ, ◌+◌, ◌*◌, ◌<◌, ◌≤◌, length, get_or}
use Rattle.cg_bits.specs.Numbers.{number_at, bits_of_bytes}
use Rattle.cg_view.proofs.unit_view.words_of.Given as goal

abbrev pub invariant-loop-k : goal.invariant-loop-k
invariant-loop-k l = record {
  four : length l.words ≡ 4;
  done : (j : ℕ) → j < l.k → get_or l.words j 0 ≡ number_at (bits_of_bytes l.body) (l.fn.place + j * 32) 32;
  rest : (j : ℕ) → l.k ≤ j → j < 4 → get_or l.words j 0 ≡ 0;
}
