use Rattle.std.proofs.Common.{ℕ, ◌<◌, ◌≤◌, length}
use Rattle.std.specs.Prelude.{slice_index}
use Rattle.cg_levelize.proofs.ring.least_place.Given as goal

abbrev pub invariant-loop-place : goal.invariant-loop-place
invariant-loop-place l =
    record {
      after : l.from ≤ l.least;
      within : l.least < length l.path;
      least : (k : ℕ) → l.from ≤ k → k < l.place → slice_index l.path l.least ≤ slice_index l.path k;
    }
