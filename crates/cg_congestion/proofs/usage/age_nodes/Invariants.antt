use Rattle.std.proofs.Common.{◌≡◌, ℕ, ◌+◌, ◌<◌, ◌≤◌, cond, ltb, length, get_or, []}
use Rattle.cg_congestion.proofs.usage.age_nodes.Given as goal

abbrev pub invariant-loop-node : goal.invariant-loop-node
invariant-loop-node l = record {
  done : (k : ℕ) → k < l.node → get_or l.history k 0 ≡ get_or l.initial.history k 0 + cond (ltb 1 (length (get_or l.nodes k []))) 1 0;
  left : (k : ℕ) → l.node ≤ k → get_or l.history k 0 ≡ get_or l.initial.history k 0;
}
