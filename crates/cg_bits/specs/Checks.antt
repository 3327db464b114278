-- The checks of bits as the code makes them, part by part of the list of faults.
use Rattle.std.specs.Prelude.{◌≡◌, ℕ, ◌+◌, ◌*◌, ◌/◌, ◌-◌, ◌<◌, ◌≤◌, ◌^◌, nat_le, eqb, not, ◌&&◌, ◌||◌, Bool, false, List, [], ◌++◌, length, map, slice_index_or, Some, Result, Ok, Err}
use Rattle.cg_model.specs.declared.config.ArgFields.{ArgFields}
use Rattle.cg_model.specs.declared.config.UnitFields.{UnitFields}
use Rattle.cg_model.specs.declared.array.Unit.{Unit}
use Rattle.cg_model.specs.Array.{Arch, resource, unit}
use Rattle.cg_model.specs.Canonical.{offered, stage_of, greatest_of, any_below, gives_output}
use Rattle.cg_flat.specs.Slots.{select_bits}
use Rattle.cg_config.specs.Rules.{mode_ok, count_ok, word_ok}
use Rattle.cg_bits.specs.declared.format.Format.{Format}
use Rattle.cg_bits.specs.declared.fault.BitsFault.{BitsFault}
use Rattle.cg_bits.specs.declared.fault.BitsFault.TheVariants.{BadSelect, BadOp, NotOffered, NotCanonical, BadPadding, Trailing, RepeatedPort}
use Rattle.cg_bits.specs.declared.checking.UnitCheck.{UnitCheck}
use Rattle.cg_bits.specs.declared.checking.UnitCheck.TheVariants.{Code, Offer, Fields}
use Rattle.cg_bits.specs.Numbers.{number_at, bits_of_bytes}
use Rattle.cg_bits.specs.Parts.{joined}
use Rattle.cg_bits.specs.Format.{ports, slot_len}
use Rattle.cg_bits.specs.Reading.{unit_in, select_place, unit_place}
use Rattle.cg_bits.specs.Faults.{first, unless, unit_breaches, wrong_magic, too_short, other_digest, bad_header}
use Rattle.cg_bits.specs.Ranges.{IsFormat}

-- ---- an argument, given whether the operation has it and whether one before it is fixed

-- the faults of word k
abbrev pub word_fault : ArgFields → Bool → ℕ → ℕ → List ℕ
word_fault a used at k = unless (word_ok a used k) (at + 4 + k * 32)

-- the faults of the argument
abbrev pub arg_faults : ArgFields → Bool → Bool → ℕ → List ℕ
arg_faults a used before at = unless (mode_ok a used before) at ++ (unless (count_ok a used) (at + 1) ++ joined (word_fault a used at) 4)

-- ---- a unit, which begins at a place

-- the faults of the unit by one check, by the bits of the file
abbrev pub unit_faults : UnitCheck → Format → Unit → List Bool → ℕ → List ℕ
unit_faults Code F u bits at = unless (nat_le (number_at bits at F.op_bits) F.greatest) (320 + at)
unit_faults Offer F u bits at = unless (offered u.ops (unit_in F (length u.ports) bits at).op) (320 + at)
unit_faults Fields F u bits at = unit_breaches F (length u.ports) (unit_in F (length u.ports) bits at) (320 + at)

-- ---- outputs

-- a field gives output to port q
abbrev pub gives_to : UnitFields → ℕ → Bool
gives_to f q = gives_output f.op && eqb f.port q

-- one of the first n fields gives output to port q
abbrev pub uses : (ℕ → UnitFields) → ℕ → ℕ → Bool
uses f n q = any_below (λ y. gives_to (f y) q) n

-- field x gives output to a port that is used already, or by one of the fields before it
abbrev pub port_fault : (ℕ → Bool) → (ℕ → UnitFields) → (ℕ → ℕ) → ℕ → List ℕ
port_fault used f at x = unless (not (gives_output (f x).op && (used (f x).port || uses f x (f x).port))) (at x)

-- ---- a slot

module _ (F : Format) (A : Arch) (bits : List Bool) where
  -- the fields of a unit in a slot
  abbrev pub fields_there : ℕ → ℕ → UnitFields
  fields_there slot x = unit_in F (ports A x) bits (unit_place F A x slot)

  -- the selects that are above the number of drivers
  abbrev pub select_faults : ℕ → List ℕ
  select_faults slot =
      joined (λ r. unless (nat_le (number_at bits (select_place F A r slot) (select_bits A r)) (length (resource A r).drivers)) (320 + select_place F A r slot)) (length A.resources)

  -- the faults of the units by one check
  abbrev pub slot_faults : UnitCheck → ℕ → List ℕ
  slot_faults check slot = joined (λ x. unit_faults check F (unit A x) bits (unit_place F A x slot)) (length A.units)

  -- the greatest stage
  abbrev pub slot_stage : ℕ → ℕ
  slot_stage slot = greatest_of (λ x. stage_of (fields_there slot x)) (length A.units)

  -- the bit of the file at which the port of a unit lies
  abbrev pub port_at : ℕ → ℕ → ℕ
  port_at slot x = 320 + (unit_place F A x slot + F.op_bits + 16)

  -- the outputs to a port that is used before the slot, or by an earlier unit in it
  abbrev pub port_faults : (ℕ → Bool) → ℕ → List ℕ
  port_faults used slot = joined (port_fault used (fields_there slot) (port_at slot)) (length A.units)

  -- a slot before gives output to port q
  abbrev pub used_before : ℕ → ℕ → Bool
  used_before slot q = any_below (λ s. uses (fields_there s) (length A.units) q) slot

  -- the outputs to a port that an earlier field gives output to
  abbrev pub repeated_faults : ℕ → List ℕ
  repeated_faults ii = joined (λ slot. port_faults (used_before slot) slot) ii

-- ---- all slots

-- the body holds the bits of all slots, of `len` bits each, and their number is small
pub record AreSlots (F : Format) (A : Arch) (body : List ℕ) (ii len : ℕ) : Type 0 where
  pub known : IsFormat F
  pub len_is : len ≡ slot_len F A
  pub whole : ii * len ≤ 8 * length body
  pub few : ii * len < 2 ^ 48

module _ (F : Format) (A : Arch) (body : List ℕ) (ii : ℕ) where
  abbrev pub bits : List Bool
  bits = bits_of_bytes body

  -- the number of bits after the slots in the last byte
  abbrev pub spare : ℕ
  spare = (ii * slot_len F A + 7) / 8 * 8 - ii * slot_len F A

  -- those of them that are set
  abbrev pub padding_faults : List ℕ
  padding_faults = joined (λ i. unless (not (slice_index_or bits (ii * slot_len F A + i) false)) (320 + (ii * slot_len F A + i))) spare

-- ---- the list of faults, in three parts

-- B1 to B4: the header, and whether the slots are all there
abbrev pub start_faults : Format → Arch → List ℕ → List ℕ → List BitsFault
start_faults F A digest bytes =
    wrong_magic F A digest bytes ++ (too_short F A digest bytes ++ (other_digest F A digest bytes ++ bad_header F A digest bytes))

-- B5 to B8: the fields of each resource and unit, one number after the other
abbrev pub field_faults : Format → Arch → List Bool → ℕ → ℕ → List BitsFault
field_faults F A bits ii stages =
    map BadSelect (joined (select_faults F A bits) ii)
    ++ (map BadOp (joined (slot_faults F A bits Code) ii)
    ++ (map NotOffered (joined (slot_faults F A bits Offer) ii)
    ++ map NotCanonical (unless (eqb stages (1 + greatest_of (slot_stage F A bits) ii)) 48 ++ joined (slot_faults F A bits Fields) ii)))

-- B9 to B11: what follows the slots, and the ports that are given output
abbrev pub end_faults : Format → Arch → List ℕ → ℕ → ℕ → List BitsFault
end_faults F A body ii long =
    map BadPadding (padding_faults F A body ii)
    ++ (map Trailing (unless (nat_le long (40 + (ii * slot_len F A + 7) / 8)) (40 + (ii * slot_len F A + 7) / 8))
    ++ map RepeatedPort (repeated_faults F A (bits_of_bytes body) ii))

-- a result about bytes: none of these faults, or the first of them
abbrev pub Checks : {X : Type 0} → Result X BitsFault → List BitsFault → Type 0
Checks (Ok x) faults = faults ≡ []
Checks (Err f) faults = first faults ≡ Some f
