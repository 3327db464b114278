use Rattle.std.proofs.Common.{◌≡◌, drop, map}
use Rattle.cg_c_syntax.specs.Written as written
use Rattle.cg_c_check.specs.Check.{enumerators}
use Rattle.cg_c_check.specs.States.{state_of}
use Rattle.cg_c_check.proofs.checker.Checker.enumerators.Given as goal

-- what is left gives what the whole gives
abbrev pub invariant-loop-tree : goal.invariant-loop-tree
invariant-loop-tree l = enumerators (map written.constant_of l.trees) (state_of l.fn.self) ≡ enumerators (map written.constant_of (drop l.tree-index l.trees)) (state_of l.self)
