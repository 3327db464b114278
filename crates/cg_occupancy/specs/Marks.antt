-- The contents of each slot of the interval of a legal mapping: the node that each unit begins, and the value that each
-- resource carries, with the resource from which it comes.
use Rattle.std.specs.Prelude.{◌≡◌, ℕ, ◌%◌, ◌&&◌, eqb, Bool, Contains, Option, Some}
use Rattle.cg_model.specs.First.{first_from, first_such}
use Rattle.cg_model.specs.declared.mapping.Place.{Place}
use Rattle.cg_model.specs.Mapping.{Position, place, positions, Carries, Begins}
use Rattle.cg_check.specs.Legal.{Mapped}
use Rattle.cg_occupancy.specs.declared.stay.Stay.{Stay}

-- a place is on unit x in slot s
abbrev pub stands_in : ℕ → ℕ → ℕ → Place → Bool
stands_in ii x s p = eqb p.unit x && eqb (p.time % ii) s

-- a position is on resource r in slot s
abbrev pub stays_in : ℕ → ℕ → ℕ → Position → Bool
stays_in ii r s p = eqb p.resource r && eqb (p.time % ii) s

-- the node that unit x begins in slot s
unfoldable pub start_at : Mapped → ℕ → ℕ → Option ℕ
start_at m x s = first_from (λ v p. stands_in m.mapping.ii x s p) 0 m.mapping.places

-- the value that resource r carries in slot s, as a position of the routes
unfoldable pub stay_at : Mapped → ℕ → ℕ → Option Position
stay_at m r s = first_such (stays_in m.mapping.ii r s) (positions m.arch m.kernel m.mapping)

-- the position that a value of the program denotes
abbrev pub position_of : Stay → Position
position_of p = record { source = p.source; resource = p.resource; time = p.time; from = p.from }

-- the marks are those of the mapping, and no others
pub record AreExact (m : Mapped) : Type 0 where
  -- a unit has the mark of a node in a slot exactly where it begins the node in a cycle of that slot, in any iteration
  pub begins : (x c v i : ℕ) → Begins m.kernel m.mapping x c v i → start_at m x (c % m.mapping.ii) ≡ Some v
  pub begun : (x s v : ℕ) → start_at m x s ≡ Some v →
      Begins m.kernel m.mapping x (place m.mapping v).time v 0 × ((place m.mapping v).time % m.mapping.ii ≡ s)
  -- a resource has the mark of a value in a slot exactly where it carries the value in a cycle of that slot, in any
  -- iteration
  pub carries : (r c v i : ℕ) → Carries m.arch m.kernel m.mapping r c v i →
      (p : Position) × (stay_at m r (c % m.mapping.ii) ≡ Some p) × (p.source ≡ v)
  pub carried : (r s : ℕ) (p : Position) → stay_at m r s ≡ Some p →
      Carries m.arch m.kernel m.mapping r p.time p.source 0 × (p.time % m.mapping.ii ≡ s)
  -- the mark gives the direction: the resource from which it comes is the one from which each route through it comes
  pub goes : (p : Position) → Contains (positions m.arch m.kernel m.mapping) p →
      stay_at m p.resource (p.time % m.mapping.ii) ≡ Some p
