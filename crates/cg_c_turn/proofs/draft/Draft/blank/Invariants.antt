use Rattle.std.proofs.Common.{◌≡◌, ℕ, length, None, slice_index_or}
use Rattle.cg_c_turn.proofs.draft.Draft.blank.Given as goal

abbrev pub invariant-loop : goal.invariant-loop
invariant-loop l =
    record {
      arrays : l.arrays ≡ l.fn.arrays;
      long : length l.latest.items ≡ l.counter;
      all : (n : ℕ) → slice_index_or l.latest.items n (record { version = 0; stored = None }) ≡ record { version = 0; stored = None };
    }
