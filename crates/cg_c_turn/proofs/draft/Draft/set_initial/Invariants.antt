use Rattle.std.proofs.Common.{◌≡◌, ℕ, ◌+◌, ◌-◌, length, slice_index}
use Rattle.cg_c_turn.specs.Draft.{draft_of}
use Rattle.cg_c_turn.specs.Nested.{with_initial}
use Rattle.cg_c_turn.proofs.draft.Draft.set_initial.Given as goal

abbrev pub invariant-loop-self : goal.invariant-loop-self
invariant-loop-self l =
    record {
      same : draft_of l.self ≡ with_initial (draft_of l.fn.self) l.self.initial.items;
      words : (n : ℕ) → slice_index l.self.initial.items n ≡ slice_index l.fn.self.initial.items n;
      number : l.number ≡ l.fn.number;
      word : l.word ≡ l.fn.word;
    }

abbrev pub decreases-loop-self : goal.decreases-loop-self
decreases-loop-self l = l.number + 1 - length l.self.initial.items
