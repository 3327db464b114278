use Rattle.std.proofs.Common.{◌≡◌, ℕ, ◌+◌, ◌-◌, length, None, slice_index_or}
use Rattle.cg_c_turn.specs.Draft.{draft_of}
use Rattle.cg_c_turn.specs.Words.{with_words}
use Rattle.cg_c_turn.proofs.draft.Draft.set_word.Given as goal

abbrev pub invariant-loop-self : goal.invariant-loop-self
invariant-loop-self l =
    record {
      same : draft_of l.self ≡ with_words (draft_of l.fn.self) l.self.words.items;
      words : (n : ℕ) → slice_index_or l.self.words.items n None ≡ slice_index_or l.fn.self.words.items n None;
      number : l.number ≡ l.fn.number;
      v : l.v ≡ l.fn.v;
    }

abbrev pub decreases-loop-self : goal.decreases-loop-self
decreases-loop-self l = l.number + 1 - length l.self.words.items
