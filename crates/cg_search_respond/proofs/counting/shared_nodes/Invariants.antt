use Rattle.std.proofs.Common.{◌≡◌, ◌+◌, ◌≤◌, [], take, drop}
use Rattle.cg_search_respond.specs.Faults.{count_after, adds_node}
use Rattle.cg_search_respond.proofs.counting.shared_nodes.Given as goal

abbrev pub invariant-loop-node : goal.invariant-loop-node
invariant-loop-node l = record {
  counted : l.count + count_after (adds_node l.arch l.ii) (take l.node l.places) (drop l.node l.places) ≡ count_after (adds_node l.arch l.ii) [] l.places;
  few : l.count ≤ l.node;
}
