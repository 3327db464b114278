-- The intervals that a search tries.
use Rattle.std.specs.Prelude.{◌≡◌, ◌<◌, ◌≤◌, ℕ, Option, Some, None, IfSome}
use Rattle.cg_model.specs.Kernel.{Kernel}
use Rattle.cg_model.specs.Array.{Arch}
use Rattle.cg_bound.specs.Bound.{IsMii}

-- an interval may be requested: it has at least one cycle, and at most the number of the architecture's contexts
abbrev pub IsAsked : Arch → Option ℕ → Type 0
IsAsked A asked = IfSome asked (λ ii. (0 < ii) × (ii ≤ A.contexts))

-- the last interval that is tried: the requested one, or the number of the architecture's contexts
abbrev pub last_tried : Arch → Option ℕ → ℕ
last_tried A None = A.contexts
last_tried A (Some ii) = ii

-- the first interval that is tried: the requested one, or the least that nothing forbids
abbrev pub IsFirst : Arch → Kernel → Option ℕ → ℕ → Type 0
IsFirst A K None first = IsMii A K first
IsFirst A K (Some ii) first = first ≡ ii
