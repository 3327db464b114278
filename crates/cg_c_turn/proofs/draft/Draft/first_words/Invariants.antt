use Rattle.cg_c_turn.specs.Draft.{draft_of}
use Rattle.cg_c_turn.proofs.FirstTurn.{FirstInitials}
use Rattle.cg_c_turn.proofs.draft.Draft.first_words.Given as goal

abbrev pub invariant-loop-initial : goal.invariant-loop-initial
invariant-loop-initial l = FirstInitials (draft_of l.fn.self) (draft_of l.self) l.fn.initials l.initial-index
