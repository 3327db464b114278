use Rattle.std.proofs.Common.{◌≡◌, ◌++◌, drop, map}
use Rattle.cg_model.specs.Mapping.{ends_of}
use Rattle.cg_mapping.specs.Ends.{as_end}
use Rattle.cg_mapping.proofs.ends.push_ends.Given as goal

abbrev pub invariant-loop-arg : goal.invariant-loop-arg
invariant-loop-arg l = map as_end l.ends.items ++ ends_of l.node l.arg (drop l.arg l.operands) ≡ map as_end l.fn.ends.items ++ ends_of l.node 0 l.operands
