use Rattle.std.proofs.Common.{◌≡◌, ◌-◌, ◌≤◌, ◌++◌}
use Rattle.cg_recur.specs.Path.{edges_between}
use Rattle.cg_recur.proofs.closed.push_between.Given as goal

abbrev pub invariant-loop-k : goal.invariant-loop-k
invariant-loop-k l = (l.low ≤ l.k) × (l.k ≤ l.high) × (l.ids.items ++ edges_between l.log l.path l.low (l.k - l.low) ≡ l.initial.ids.items ++ edges_between l.log l.path l.low (l.high - l.low))

abbrev pub decreases-loop-k : goal.decreases-loop-k
decreases-loop-k l = l.k
