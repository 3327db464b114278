use Rattle.std.proofs.Common.{◌≡◌, ℕ, ◌<◌, ◌≤◌}
use Rattle.std.specs.Prelude.{slice_index}
use Rattle.cg_levelize.specs.declared.walk.Mark.TheVariants.{Done}
use Rattle.cg_levelize.specs.Walk.{mark}
use Rattle.cg_levelize.proofs.walk.first_waiting.Given as goal

abbrev pub invariant-loop-place : goal.invariant-loop-place
invariant-loop-place l = (k : ℕ) → l.from ≤ k → k < l.place → mark l.marks (slice_index l.drivers k) ≡ Done
