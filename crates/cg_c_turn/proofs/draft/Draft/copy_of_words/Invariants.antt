use Rattle.std.proofs.Common.{◌≡◌, take}
use Rattle.cg_c_turn.proofs.draft.Draft.copy_of_words.Given as goal

abbrev pub invariant-loop-word : goal.invariant-loop-word
invariant-loop-word l = l.words.items ≡ take l.word-index l.fn.self.words.items
