-- The resources and units for which a configuration has entries.
use Rattle.std.specs.Prelude.{ℕ, ◌<◌, [], length, slice_index_or}
use Rattle.cg_model.specs.Config.{Config}

-- it has a select for resource r in that slot
abbrev pub HasSelect : Config → ℕ → ℕ → Type 0
HasSelect C r slot = (slot < C.ii) × (r < length (slice_index_or C.selects slot []))

-- it has fields for unit x in that slot
abbrev pub HasUnit : Config → ℕ → ℕ → Type 0
HasUnit C x slot = (slot < C.ii) × (x < length (slice_index_or C.units slot []))
