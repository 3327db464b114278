use Rattle.std.proofs.Common.{◌≡◌, ℕ, ◌+◌, ◌<◌, ◌≤◌, cond, ltb, get_or}
use Rattle.cg_mrrg.specs.Nodes.{node_at}
use Rattle.cg_congestion.specs.Claims.{claims_at}
use Rattle.cg_congestion.specs.Plain.{plains}
use Rattle.cg_congestion.proofs.laws.age_all.Given as goal

abbrev pub invariant-loop-place : goal.invariant-loop-place
invariant-loop-place l = record {
  done : (k : ℕ) → k < l.place → get_or l.history k 0 ≡ get_or l.initial.history k 0 + cond (ltb 1 (claims_at l.interval (plains l.positions) (node_at l.interval k))) 1 0;
  left : (k : ℕ) → l.place ≤ k → get_or l.history k 0 ≡ get_or l.initial.history k 0;
}
