-- Configurations that are changed in one place.
use Rattle.std.specs.Prelude.{◌≡◌, ℕ, ◌+◌, ◌<◌, max, false, [], length, replicate, slice_index_or, slice_set}
use Rattle.cg_model.specs.declared.config.UnitFields.{UnitFields}
use Rattle.cg_model.specs.Array.{Arch}
use Rattle.cg_model.specs.Config.{Config, fields, off}
use Rattle.cg_model.specs.Canonical.{stage_of, clash}

-- everything off, and one stage
abbrev pub all_off : Arch → ℕ → Config
all_off A ii =
    record {
      ii = ii;
      stages = 1;
      selects = replicate ii (replicate (length A.resources) 0);
      units = replicate ii (replicate (length A.units) off);
    }

-- the configuration with another select of resource r in a slot
abbrev pub with_select : Config → ℕ → ℕ → ℕ → Config
with_select C r slot value = record C { selects = slice_set C.selects slot (slice_set (slice_index_or C.selects slot []) r value) }

-- the configuration with other fields of unit x in a slot, and stages raised if needed
abbrev pub with_fields : Config → ℕ → ℕ → UnitFields → Config
with_fields C x slot f =
    record C {
      stages = max C.stages (1 + stage_of f);
      units = slice_set C.units slot (slice_set (slice_index_or C.units slot []) x f);
    }

-- no field gives output to a port that these give output to
abbrev pub LeavesPortsFree : Arch → Config → UnitFields → Type 0
LeavesPortsFree A C f = (x slot : ℕ) → x < length A.units → slot < C.ii → clash (fields C x slot) f ≡ false
