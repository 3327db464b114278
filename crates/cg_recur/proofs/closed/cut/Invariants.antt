use Rattle.std.proofs.Common.{ℕ, ◌<◌, ◌≤◌}
use Rattle.cg_recur.specs.Path.{moment}
use Rattle.cg_recur.proofs.closed.cut.Given as goal

abbrev pub invariant-loop-k : goal.invariant-loop-k
invariant-loop-k l =
    (l.low < l.at) × (l.at ≤ l.high) × ((moment l.log l.path l.at).node ≤ (moment l.log l.path l.high).node) ×
    ((j : ℕ) → l.low < j → j < l.k → (moment l.log l.path l.at).node ≤ (moment l.log l.path j).node)
