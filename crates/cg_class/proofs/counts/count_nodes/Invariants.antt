use Rattle.std.proofs.Common.{◌≡◌, ◌≤◌, take}
use Rattle.cg_class.specs.Class.{nodes_in}
use Rattle.cg_class.proofs.counts.count_nodes.Given as goal

abbrev pub invariant-loop-node : goal.invariant-loop-node
invariant-loop-node l = (l.count ≡ nodes_in (take l.node-index l.nodes) l.set) × (l.count ≤ l.node-index)
