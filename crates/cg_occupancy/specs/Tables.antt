-- Tables by unit and slot and by resource and slot, in which a cell keeps the first item that is noted in it.
use Rattle.std.specs.Prelude.{◌≡◌, ℕ, ◌+◌, ◌*◌, ◌%◌, ◌<◌, List, [], ◌∷◌, length, Option, Some, None, slice_index_or, slice_set, option_map}
use Rattle.std.specs.Option.{option_or}
use Rattle.cg_model.specs.Array.{Arch, delay}
use Rattle.cg_model.specs.declared.mapping.Place.{Place}
use Rattle.cg_model.specs.Mapping.{Position, IsLegal}
use Rattle.cg_check.specs.Legal.{Mapped}
use Rattle.cg_occupancy.specs.declared.stay.Stay.{Stay}
use Rattle.cg_occupancy.specs.Marks.{start_at, stay_at, position_of}

-- ---- what the tables of a mapping hold

-- a cell for each unit and slot, with the node that the unit begins there
pub record HasStarts (m : Mapped) (table : List (Option ℕ)) : Type 0 where
  pub long : length table ≡ length m.arch.units * m.mapping.ii
  pub cells : (x s : ℕ) → x < length m.arch.units → s < m.mapping.ii →
      slice_index_or table (x * m.mapping.ii + s) None ≡ start_at m x s

-- a cell for each resource and slot, with the value that the resource carries there
pub record HasStays (m : Mapped) (table : List (Option Stay)) : Type 0 where
  pub long : length table ≡ length m.arch.resources * m.mapping.ii
  pub cells : (r s : ℕ) → r < length m.arch.resources → s < m.mapping.ii →
      option_map position_of (slice_index_or table (r * m.mapping.ii + s) None) ≡ stay_at m r s

-- both tables of a legal mapping
pub record AreTables (m : Mapped) (starts : List (Option ℕ)) (stays : List (Option Stay)) : Type 0 where
  pub legal : IsLegal m.arch m.kernel m.mapping
  pub units : HasStarts m starts
  pub resources : HasStays m stays

-- ---- how they are made

-- cell i of a table
abbrev pub cell : {T : Type 0} → List (Option T) → ℕ → Option T
cell table i = slice_index_or table i None

-- the cell of number r at time t: the cells of a number are adjacent, in the order of slots
abbrev pub index_of : ℕ → ℕ → ℕ → ℕ
index_of ii r t = r * ii + t % ii

-- a table after one more item for cell i, which keeps what it has; past the end nothing changes
unfoldable pub noted : {T : Type 0} → List (Option T) → ℕ → T → List (Option T)
noted table i item = slice_set table i (option_or (cell table i) (Some item))

-- a table after places, whose nodes are numbered from v on
abbrev pub with_places : ℕ → List (Option ℕ) → ℕ → List Place → List (Option ℕ)
with_places ii table v [] = table
with_places ii table v (p ∷ ps) = with_places ii (noted table (index_of ii p.unit p.time) v) (v + 1) ps

-- the value that a position denotes
abbrev pub stay_of : Position → Stay
stay_of p = record { source = p.source; resource = p.resource; time = p.time; from = p.from }

-- a table after positions
abbrev pub with_positions : ℕ → List (Option Stay) → List Position → List (Option Stay)
with_positions ii table [] = table
with_positions ii table (p ∷ ps) = with_positions ii (noted table (index_of ii p.resource p.time) (stay_of p)) ps

-- the next value on a path
abbrev pub next_of : Arch → Stay → ℕ → Stay
next_of A s r = record { source = s.source; resource = r; time = s.time + delay A r; from = Some s.resource }
