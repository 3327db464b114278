-- The numbers of nodes by unit and slot: the modulo reservation table (Rau 1994) of a placement.
use Rattle.std.specs.Prelude.{◌≡◌, ℕ, ◌+◌, ◌-◌, ◌*◌, ◌%◌, ◌<◌, List, length, count_by, sum_by, slice_index, slice_set}
use Rattle.cg_model.specs.declared.mapping.Place.{Place}
use Rattle.cg_place.specs.Counts.{stands_at}

-- the entry of a place: entries are ordered by unit, then slot
abbrev pub entry : ℕ → Place → ℕ
entry ii p = p.unit * ii + p.time % ii

-- the sum over all numbers of their excess over one
abbrev pub over : List ℕ → ℕ
over counts = sum_by (λ c. c - 1) counts

-- one more node, and one less, at an entry
abbrev pub raised : List ℕ → ℕ → List ℕ
raised counts e = slice_set counts e (slice_index counts e + 1)

abbrev pub lowered : List ℕ → ℕ → List ℕ
lowered counts e = slice_set counts e (slice_index counts e - 1)

-- for each slot of each unit the number of these places there
pub record IsTable (units ii : ℕ) (places : List Place) (counts : List ℕ) : Type 0 where
  pub each : length counts ≡ units * ii
  pub right : (x s : ℕ) → x < units → s < ii → slice_index counts (x * ii + s) ≡ count_by (stands_at ii x s) places
