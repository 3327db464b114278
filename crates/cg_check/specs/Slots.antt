-- The slots of units that nodes take.
use Rattle.std.specs.Prelude.{◌≡◌, ℕ, ◌+◌, ◌*◌, ◌%◌, ◌<◌, Bool, false, ◌&&◌, eqb, List, length, take, drop, Option, slice_index_or}
use Rattle.std.specs.List.{list_any}
use Rattle.cg_model.specs.First.{first_from}
use Rattle.cg_check.specs.Rules.{is_shared}
use Rattle.cg_model.specs.declared.mapping.Place.{Place}

-- one of these places has unit x and slot s
abbrev pub takes : ℕ → List Place → ℕ → ℕ → Bool
takes ii places x s = list_any (λ q. eqb q.unit x && eqb (q.time % ii) s) places

-- place number v
abbrev pub place_in : List Place → ℕ → Place
place_in places v = slice_index_or places v (record { unit = 0; time = 0 })

-- the mark of a place: those of a unit are adjacent, by slot
abbrev pub mark_of : ℕ → Place → ℕ
mark_of ii p = p.unit * ii + p.time % ii

-- a mark for each slot of each unit, set if one of these places takes it
pub record AreMarks (ii units : ℕ) (places : List Place) (marks : List Bool) : Type 0 where
  pub long : length marks ≡ units * ii
  pub set : (x s : ℕ) → x < units → s < ii → slice_index_or marks (x * ii + s) false ≡ takes ii places x s

-- the first node from number k on whose place is shared with an earlier one
abbrev pub first_shared : ℕ → List Place → ℕ → Option ℕ
first_shared ii places k = first_from (λ v p. is_shared ii (take v places) p) k (drop k places)

-- the places before number k have marks, and none of them is shared
pub record IsScanned (ii units : ℕ) (places : List Place) (k : ℕ) (marked : List Bool) : Type 0 where
  pub same : first_shared ii places k ≡ first_shared ii places 0
  pub marks : AreMarks ii units (take k places) marked
