use Rattle.std.proofs.Common.{◌≡◌, ◌-◌, length}
use Rattle.cg_pad.specs.Bytes.{take_words}
use Rattle.cg_pad.proofs.Steps.{after}
use Rattle.cg_pad.proofs.reading.Cursor.block.Given as goal

-- the words so far, and then those that are still to come
abbrev pub invariant-loop-word : goal.invariant-loop-word
invariant-loop-word l = record {
  taken : after l.words.items (take_words (l.count - l._word) l.self.rest.now) ≡ take_words l.count l.fn.self.rest.now;
  long : length l.words.items ≡ l._word;
  size : l.self.size ≡ l.fn.self.size;
}
