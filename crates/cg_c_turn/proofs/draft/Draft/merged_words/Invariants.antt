use Rattle.std.proofs.Common.{◌≡◌, ℕ, ◌<◌, length, None, slice_index_or}
use Rattle.cg_c_values.specs.Values.{Extends}
use Rattle.cg_c_turn.specs.Draft.{draft_of}
use Rattle.cg_c_turn.specs.Words.{Merges, with_values}
use Rattle.cg_c_turn.proofs.draft.Draft.merged_words.Given as goal

abbrev pub invariant-loop-number : goal.invariant-loop-number
invariant-loop-number l =
    record {
      same : draft_of l.self ≡ with_values (draft_of l.fn.self) (draft_of l.self);
      values : Extends (draft_of l.fn.self).values (draft_of l.self).values;
      chosen : l.chosen ≡ l.fn.chosen;
      other : l.other ≡ l.fn.other;
      condition : l.condition ≡ l.fn.condition;
      long : length l.words.items ≡ l.number;
      each : (n : ℕ) → n < l.number → Merges (draft_of l.self) l.fn.condition n (slice_index_or l.fn.chosen n None) (slice_index_or l.fn.other n None) (slice_index_or l.words.items n None);
    }
