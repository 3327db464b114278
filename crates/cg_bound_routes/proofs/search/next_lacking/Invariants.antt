use Rattle.std.proofs.Common.{ℕ, ◌-◌, ◌<◌, ◌≤◌, length}
use Rattle.std.specs.Prelude.{slice_index}
use Rattle.cg_bound_routes.specs.Search.{HasNumber}
use Rattle.cg_bound_routes.proofs.search.next_lacking.Given as goal

abbrev pub invariant-loop-place : goal.invariant-loop-place
invariant-loop-place l =
    record {
      from : l.at ≤ l.place;
      within : l.place ≤ length l.front;
      passed : (i : ℕ) → l.at ≤ i → i < l.place → HasNumber l.numbers (slice_index l.front i);
    }

abbrev pub decreases-loop-place : goal.decreases-loop-place
decreases-loop-place l = length l.front - l.place
