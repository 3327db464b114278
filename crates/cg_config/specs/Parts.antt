-- Canonical configurations in parts, slot by slot.
use Rattle.std.specs.Prelude.{◌≡◌, ℕ, ◌+◌, ◌<◌, ◌≤◌, ◌^◌, ◌&&◌, eqb, Bool, true, false, List, [], length, slice_index_or}
use Rattle.cg_model.specs.declared.config.UnitFields.{UnitFields}
use Rattle.cg_model.specs.Array.{Arch, resource, unit}
use Rattle.cg_model.specs.Config.{Config, select, fields}
use Rattle.cg_model.specs.Canonical.{AreFields, gives_output, any_below, last_stage, port_free}

-- the property holds in each slot
abbrev pub EachSlot : Config → (ℕ → Type 0) → Type 0
EachSlot C P = (slot : ℕ) → slot < C.ii → P slot

-- ---- lengths

-- the slot has a select for each resource, and fields for each unit
abbrev pub HasRow : Arch → Config → ℕ → Type 0
HasRow A C slot =
    (length (slice_index_or C.selects slot []) ≡ length A.resources) × (length (slice_index_or C.units slot []) ≡ length A.units)

-- the number of slots is the interval, and each slot has a select for each resource and fields for each unit
pub record HasRows (A : Arch) (C : Config) : Type 0 where
  pub slots : (length C.selects ≡ C.ii) × (length C.units ≡ C.ii)
  pub rows : EachSlot C (HasRow A C)

-- ---- what the rows hold

-- the interval is at least 1 and at most the contexts
abbrev pub HasInterval : Arch → Config → Type 0
HasInterval A C = (0 < C.ii) × (C.ii ≤ A.contexts)

-- each select of the slot is 0 or the position of a driver
abbrev pub HasSelects : Arch → Config → ℕ → Type 0
HasSelects A C slot = (r : ℕ) → r < length A.resources → select C r slot ≤ length (resource A r).drivers

-- the fields of each unit in the slot keep the rules
abbrev pub HasFields : Arch → Config → ℕ → Type 0
HasFields A C slot = (x : ℕ) → x < length A.units → AreFields (unit A x).ops (fields C x slot)

-- no field of the slot gives output to a port that one before it gives output to
abbrev pub HasPorts : Arch → Config → ℕ → Type 0
HasPorts A C slot = (x : ℕ) → x < length A.units → port_free A C x slot ≡ true

-- the properties of a canonical configuration besides the lengths of its rows
pub record KeepsRules (A : Arch) (C : Config) : Type 0 where
  pub interval : HasInterval A C
  pub stages : C.stages ≡ 1 + last_stage A C
  pub selects : EachSlot C (HasSelects A C)
  pub fielded : EachSlot C (HasFields A C)
  pub free : EachSlot C (HasPorts A C)

-- ---- ports

-- the fields give output to port q
abbrev pub gives_to : UnitFields → ℕ → Bool
gives_to f q = gives_output f.op && eqb f.port q

-- one of the first n units gives output to port q in the slot
abbrev pub given_in : Config → ℕ → ℕ → ℕ → Bool
given_in C slot n q = any_below (λ y. gives_to (fields C y slot) q) n

-- a unit gives output to port q in a slot before this one
abbrev pub given_before : Arch → Config → ℕ → ℕ → Bool
given_before A C slot q = any_below (λ s. given_in C s (length A.units) q) slot

-- for each of the sixteen ports, the list says whether the port satisfies the test
abbrev pub Notes : List Bool → (ℕ → Bool) → Type 0
Notes taken given = (q : ℕ) → q < 2 ^ 4 → slice_index_or taken q false ≡ given q
