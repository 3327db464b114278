use Rattle.cg_c_turn.specs.Draft.{draft_of}
use Rattle.cg_c_turn.proofs.FirstTurn.{FirstStmts}
use Rattle.cg_c_turn.proofs.draft.Draft.first_stmts.Given as goal

abbrev pub invariant-loop-stmt : goal.invariant-loop-stmt
invariant-loop-stmt l = FirstStmts (draft_of l.fn.self) (draft_of l.self) l.fn.stmts l.stmt-index
