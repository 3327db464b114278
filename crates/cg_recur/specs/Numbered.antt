-- Chains of edges by their numbers in a list.
use Rattle.std.specs.Prelude.{◌≡◌, ℕ, ◌<◌, List, length, slice_get, slice_index}
use Rattle.cg_recur.specs.declared.edge.Edge.{Edge}
use Rattle.cg_recur.specs.declared.rounds.Numbered.{Numbered}
use Rattle.cg_recur.specs.declared.rounds.Numbered.TheVariants.{Cycle, Times}
use Rattle.cg_recur.specs.Chain.{IsCycle, IsShown, IsEarly}

-- a closed chain that is too long for the interval, in its shown form
abbrev pub IsShownCycle : List Edge → ℕ → List ℕ → Type 0
IsShownCycle es ii xs = IsCycle (slice_get es) ii xs × IsShown (slice_get es) xs

-- a closed chain of this form, or the earliest times of n nodes if there is none
abbrev pub IsNumbered : List Edge → ℕ → ℕ → Numbered → Type 0
IsNumbered es n ii (Cycle xs) = IsShownCycle es ii xs.items
IsNumbered es n ii (Times ts) =
    (length ts.items ≡ n) × ((v : ℕ) → v < n → IsEarly (slice_get es) ii v (slice_index ts.items v)) × ((xs : List ℕ) → IsCycle (slice_get es) ii xs → ⊥)
