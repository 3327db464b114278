use Rattle.std.proofs.Common.{◌≡◌, drop}
use Rattle.cg_c_syntax.specs.Written as written
use Rattle.cg_c_check.specs.Statements.{stmts}
use Rattle.cg_c_check.specs.States.{state_of}
use Rattle.cg_c_check.proofs.Stated.{stmts_ahead}
use Rattle.cg_c_check.proofs.checker.Checker.+statement.Given as goal

-- the statements so far, and those that are left
abbrev pub invariant-stmts-loop-tree : goal.invariant-stmts-loop-tree
invariant-stmts-loop-tree l = stmts l.each (written.stmts_of l.trees) (state_of l.fn.self) ≡ stmts_ahead l.stmts.items (stmts l.each (written.stmts_of (drop l.tree-index l.trees)) (state_of l.self))
