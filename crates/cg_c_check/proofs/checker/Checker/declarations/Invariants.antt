use Rattle.std.proofs.Common.{◌≡◌, drop, map}
use Rattle.cg_c_syntax.specs.Written as written
use Rattle.cg_c_check.specs.Statements.{declarations}
use Rattle.cg_c_check.specs.States.{state_of}
use Rattle.cg_c_check.proofs.Stated.{ahead}
use Rattle.cg_c_check.proofs.checker.Checker.declarations.Given as goal

-- the declarations so far, and those that are left
abbrev pub invariant-loop-tree : goal.invariant-loop-tree
invariant-loop-tree l =
    declarations l.each l.signedness (map written.word_of l.trees) (state_of l.fn.self) ≡ ahead l.initials.items (declarations l.each l.signedness (map written.word_of (drop l.tree-index l.trees)) (state_of l.self))
