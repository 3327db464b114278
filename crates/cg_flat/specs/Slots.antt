-- The layout of the fields of a slot, in bits from the slot's first bit: a select for each resource, and then the
-- fields of each unit.
use Rattle.std.specs.Prelude.{ℕ, zero, suc, ◌+◌, ◌*◌, ◌/◌, ◌^◌, ◌<◌, ◌≤◌, eqb, if◌then◌else◌, List, map, length}
use Rattle.std.specs.List.{range_with_len}
use Rattle.cg_model.specs.Array.{Arch, resource, unit}

-- the number of binary digits of a number, counted up to `most`
unfoldable pub width_by : ℕ → ℕ → ℕ
width_by zero k = 0
width_by (suc most) k = if eqb k 0 then 0 else suc (width_by most (k / 2))

-- the least width with k below 2 ^ width
abbrev pub width : ℕ → ℕ
width k = width_by k k

-- w is the least width that distinguishes all numbers up to k
pub record IsWidth (k w : ℕ) : Type 0 where
  pub enough : k < 2 ^ w
  pub least : (v : ℕ) → k < 2 ^ v → w ≤ v

-- the width of a resource's select: 0 is off, and j selects driver number j, counted from 1
abbrev pub select_bits : Arch → ℕ → ℕ
select_bits A r = width (length (resource A r).drivers)

-- the sum of the first n values
unfoldable pub total : (ℕ → ℕ) → ℕ → ℕ
total f zero = 0
total f (suc n) = total f n + f n

-- where the select of resource r begins
abbrev pub select_at : Arch → ℕ → ℕ
select_at A r = total (select_bits A) r

-- the number of bits of a unit: 6 bits for an operation code, 16 for a stage, 4 for a port and 32 for an immediate, and
-- for each of its ports a mode bit, 3 bits for a count and four words of 32 bits
abbrev pub unit_bits : Arch → ℕ → ℕ
unit_bits A x = 58 + length (unit A x).ports * 132

-- where the fields of unit x begin
abbrev pub unit_at : Arch → ℕ → ℕ
unit_at A x = select_at A (length A.resources) + total (unit_bits A) x

-- the number of bits of a slot
abbrev pub slot_bits : Arch → ℕ
slot_bits A = unit_at A (length A.units)

-- where each select begins, and where the last one ends
unfoldable pub all_select_at : Arch → List ℕ
all_select_at A = map (select_at A) (range_with_len 0 (length A.resources + 1))

-- where the fields of each unit begin, and where the last ones end
unfoldable pub all_unit_at : Arch → List ℕ
all_unit_at A = map (unit_at A) (range_with_len 0 (length A.units + 1))
