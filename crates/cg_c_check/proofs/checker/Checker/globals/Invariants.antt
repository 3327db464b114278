use Rattle.std.proofs.Common.{◌≡◌, drop, map}
use Rattle.cg_c_syntax.specs.Written as written
use Rattle.cg_c_check.specs.Check.{globals}
use Rattle.cg_c_check.specs.States.{state_of}
use Rattle.cg_c_check.proofs.checker.Checker.globals.Given as goal

-- what is left gives what the whole gives
abbrev pub invariant-loop-tree : goal.invariant-loop-tree
invariant-loop-tree l = globals (map written.global_of l.trees) (state_of l.fn.self) ≡ globals (map written.global_of (drop l.tree-index l.trees)) (state_of l.self)
