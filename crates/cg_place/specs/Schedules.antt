-- The meaning of the counts: both are 0 exactly if the placement is a schedule.
use Rattle.std.specs.Prelude.{◌≡◌, ℕ, ◌+◌, ◌*◌, ◌%◌, ◌<◌, ◌≤◌, ◌↔◌, List, length}
use Rattle.cg_model.specs.Kernel.{Kernel, HasOrder}
use Rattle.cg_model.specs.Array.{Arch}
use Rattle.cg_model.specs.declared.mapping.Place.{Place}
use Rattle.cg_place.specs.Placed.{place_in}
use Rattle.cg_place.specs.Counts.{unit_excess, order_violations}

-- a unit begins at most one node in each slot
abbrev pub AreApart : ℕ → List Place → Type 0
AreApart ii places =
    (v w : ℕ) → v < length places → w < length places → (place_in places v).unit ≡ (place_in places w).unit →
    (place_in places v).time % ii ≡ (place_in places w).time % ii → v ≡ w

-- an order edge's target begins at least a cycle after its source, d iterations later
abbrev pub AreOrdered : Kernel → ℕ → List Place → Type 0
AreOrdered K ii places =
    (e u v d : ℕ) → HasOrder K e u v d → (place_in places u).time + 1 ≤ (place_in places v).time + ii * d

-- the excess is 0 exactly if no unit begins two nodes in a slot
abbrev pub IsExcess : Type 0
IsExcess =
    (A : Arch) (ii : ℕ) (places : List Place) → 0 < ii → ((v : ℕ) → v < length places → (place_in places v).unit < length A.units) →
    (unit_excess A ii places ≡ 0) ↔ AreApart ii places

-- no order edge is broken exactly if all targets begin after their sources
abbrev pub AreViolations : Type 0
AreViolations = (K : Kernel) (ii : ℕ) (places : List Place) → (order_violations K ii places ≡ 0) ↔ AreOrdered K ii places
