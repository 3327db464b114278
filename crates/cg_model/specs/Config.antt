-- Configurations: the selects and fields of the array for each slot, where a slot is a cycle's number modulo the
-- interval.
use Rattle.std.specs.Prelude.{ℕ, false, List, [], replicate, None, slice_index, slice_index_or}
pub use Rattle.cg_model.specs.declared.config.ArgFields.{ArgFields}
pub use Rattle.cg_model.specs.declared.config.UnitFields.{UnitFields}

-- the interval, the number of stages, a select for each slot and resource, and fields for each slot
-- and unit
pub record Config : Type 0 where
  pub ii : ℕ
  pub stages : ℕ
  pub selects : List (List ℕ)  -- by slot and resource
  pub units : List (List UnitFields)  -- by slot and unit

-- the fields of an argument, all zero
abbrev pub no_arg : ArgFields
no_arg = record { fixed = false; count = 0; init = replicate 4 0 }

-- the fields of a unit that is off
abbrev pub off : UnitFields
off = record { op = None; stage = 0; port = 0; immediate = 0; args = replicate 3 no_arg }

-- argument p
abbrev pub arg : UnitFields → ℕ → ArgFields
arg f p = slice_index_or f.args p no_arg

-- the select of resource r at a slot: 0 for none, else the position of a driver in the resource's list, counted from 1
abbrev pub select : Config → ℕ → ℕ → ℕ
select C r slot = slice_index (slice_index_or C.selects slot []) r

-- the fields of unit x at a slot
abbrev pub fields : Config → ℕ → ℕ → UnitFields
fields C x slot = slice_index_or (slice_index_or C.units slot []) x off
