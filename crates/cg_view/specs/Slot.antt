-- The contents of one slot of a configuration.
use Rattle.std.specs.Prelude.{ℕ, ◌+◌, Bool, List, [], length, map, slice_index_or}
use Rattle.std.specs.List.{range_with_len}
use Rattle.cg_model.specs.declared.config.UnitFields.{UnitFields}
use Rattle.cg_model.specs.Array.{Arch}
use Rattle.cg_model.specs.Config.{Config}
use Rattle.cg_flat.specs.Slots.{select_bits, select_at}
use Rattle.cg_bits.specs.Numbers.{number_at}
use Rattle.cg_bits.specs.Format.{cgb2, ports, unit_at}
use Rattle.cg_bits.specs.Reading.{unit_in}

-- the selects by resource, and the fields by unit
pub record Slot : Type 0 where
  pub selects : List ℕ
  pub units : List UnitFields

-- the slot of the given number
abbrev pub slot_of : Config → ℕ → Slot
slot_of C slot = record { selects = slice_index_or C.selects slot []; units = slice_index_or C.units slot [] }

-- the slot that begins at a place in bits
abbrev pub slot_in : Arch → List Bool → ℕ → Slot
slot_in A bits at =
    record {
      selects = map (λ r. number_at bits (at + select_at A r) (select_bits A r)) (range_with_len 0 (length A.resources));
      units = map (λ x. unit_in cgb2 (ports A x) bits (at + unit_at cgb2 A x)) (range_with_len 0 (length A.units));
    }
