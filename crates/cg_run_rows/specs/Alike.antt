-- What two configurations have in common.
use Rattle.std.specs.Prelude.{◌≡◌, ℕ, ◌<◌, length}
use Rattle.cg_model.specs.Array.{Arch}
use Rattle.cg_model.specs.Config.{Config, select, fields}

-- the selects of the first n resources in a slot
abbrev pub SameSelects : Config → Config → ℕ → ℕ → Type 0
SameSelects C D n slot = (r : ℕ) → r < n → select C r slot ≡ select D r slot

-- the fields of the first n units in a slot
abbrev pub SameFields : Config → Config → ℕ → ℕ → Type 0
SameFields C D n slot = (x : ℕ) → x < n → fields C x slot ≡ fields D x slot

-- the selects of all resources and the fields of all units in a slot
unfoldable pub IsSameSlot : Arch → Config → Config → ℕ → Type 0
IsSameSlot A C D slot = SameSelects C D (length A.resources) slot × SameFields C D (length A.units) slot

-- all selects and fields in each of the first n slots
abbrev pub SameSlots : Arch → Config → Config → ℕ → Type 0
SameSlots A C D n = (slot : ℕ) → slot < n → IsSameSlot A C D slot

-- the interval, the stages, and all selects and fields in each slot
pub record IsSame (A : Arch) (C D : Config) : Type 0 where
  pub interval : C.ii ≡ D.ii
  pub stages : C.stages ≡ D.stages
  pub slots : SameSlots A C D C.ii
