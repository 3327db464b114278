use Rattle.std.proofs.Common.{length}
use Rattle.cg_check.specs.Slots.{IsScanned}
use Rattle.cg_check.proofs.slots.shared_node.Given as goal

abbrev pub invariant-loop-node : goal.invariant-loop-node
invariant-loop-node l = IsScanned l.ii (length l.arch.units) l.places l.node l.taken.items
