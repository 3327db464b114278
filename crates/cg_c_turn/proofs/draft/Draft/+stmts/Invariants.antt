use Rattle.cg_c_turn.specs.Draft.{draft_of}
use Rattle.cg_c_turn.proofs.Listed.{LeftStmts}
use Rattle.cg_c_turn.proofs.draft.Draft.+stmts.Given as goal

abbrev pub invariant-stmts-loop-s : goal.invariant-stmts-loop-s
invariant-stmts-loop-s l = LeftStmts (draft_of l.fn.self) (draft_of l.self) l.fn.stmts l.s-index
