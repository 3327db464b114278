use Rattle.std.proofs.Common.{◌≡◌, ℕ, ◌+◌, ◌-◌, ◌<◌, length}
use Rattle.std.specs.Prelude.{slice_index}
use Rattle.cg_bound_flow.specs.Finish.{stay_of}
use Rattle.cg_bound_flow.proofs.find.schedule.Given as goal

abbrev pub invariant-loop-w : goal.invariant-loop-w
invariant-loop-w l =
    (length l.time.items ≡ l.w)
    × (length l.lasts.items ≡ l.w)
    × (length l.longest.items ≡ l.w)
    × ((v : ℕ) → v < l.w → slice_index l.time.items v ≡ slice_index l.routing.potentials.items v)
    × ((v : ℕ) → v < l.w → slice_index l.lasts.items v ≡ slice_index l.routing.potentials.items (l.n + v) - slice_index l.routing.potentials.items v)
    × ((v : ℕ) → v < l.w → slice_index l.longest.items v ≡ stay_of l.n l.routing.potentials.items l.routing.routed.items v)
