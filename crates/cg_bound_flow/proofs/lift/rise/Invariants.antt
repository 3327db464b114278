use Rattle.std.proofs.Common.{◌≡◌, ℕ, ◌+◌, ◌<◌, ◌≤◌, length}
use Rattle.std.specs.Prelude.{slice_index}
use Rattle.cg_bound_flow.proofs.lift.rise.Given as goal

abbrev pub invariant-loop-x : goal.invariant-loop-x
invariant-loop-x l =
    (length l.potentials.items ≡ length l.initial.potentials.items)
    × ((y : ℕ) → y < l.x → 0 < slice_index l.order y → slice_index l.potentials.items y ≡ slice_index l.initial.potentials.items y + l.by)
    × ((y : ℕ) → y < l.x → slice_index l.order y ≡ 0 → slice_index l.potentials.items y ≡ slice_index l.initial.potentials.items y)
    × ((y : ℕ) → l.x ≤ y → slice_index l.potentials.items y ≡ slice_index l.initial.potentials.items y)
