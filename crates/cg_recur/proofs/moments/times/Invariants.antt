use Rattle.std.proofs.Common.{◌≡◌, ℕ, ◌<◌, length}
use Rattle.std.specs.Prelude.{slice_index}
use Rattle.cg_recur.specs.Log.{time_of}
use Rattle.cg_recur.proofs.moments.times.Given as goal

abbrev pub invariant-loop-i : goal.invariant-loop-i
invariant-loop-i l = (length l.times.items ≡ l.i-index) × ((v : ℕ) → v < l.i-index → slice_index l.times.items v ≡ time_of l.log l.last v)
