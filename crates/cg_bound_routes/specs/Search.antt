-- A search along links, backward from the ends of ways.
use Rattle.std.specs.Prelude.{◌≡◌, ℕ, ◌+◌, ◌<◌, ◌≤◌, ◌⊎◌, ◌++◌, if◌then◌else◌, eqb, List, [], length, Contains, Option, Some, None, sum_by, slice_index, slice_index_or, slice_set, replicate, Bool, true, false, ◌↔◌}
use Rattle.cg_model.specs.Array.{Arch, resource, delay}
use Rattle.cg_bound_routes.specs.declared.search.Search.{Search}
use Rattle.cg_bound_routes.specs.Ways.{Leads, IsLeast, IsSmall}

-- a way of n registers leads from resource q to one of the ends
abbrev pub Reaches : Arch → List ℕ → ℕ → ℕ → Type 0
Reaches A ends q n = (r : ℕ) × Contains ends r × Leads A q r n

-- a way of n registers leads from one of the resources `from` to one of the ends
abbrev pub Joins : Arch → List ℕ → List ℕ → ℕ → Type 0
Joins A from ends n = (q : ℕ) × Contains from q × Reaches A ends q n

-- the result of a search: the least number with a property, which is at most the number of the architecture's resources
pub record IsFound (A : Arch) (P : ℕ → Type 0) (hops : Option ℕ) : Type 0 where
  pub least : IsLeast P hops
  pub small : IsSmall (length A.resources) hops

-- the number of resource r; None if it has none yet
abbrev pub number : List (Option ℕ) → ℕ → Option ℕ
number numbers r = slice_index_or numbers r None

-- resource q has a number of at most n
abbrev pub IsWithin : List (Option ℕ) → ℕ → ℕ → Type 0
IsWithin numbers q n = (m : ℕ) × (number numbers q ≡ Some m) × (m ≤ n)

-- resource q has a number
abbrev pub HasNumber : List (Option ℕ) → ℕ → Type 0
HasNumber numbers q = (m : ℕ) × (number numbers q ≡ Some m)

-- 1 for a resource without a number
abbrev pub lacks : Option ℕ → ℕ
lacks None = 1
lacks (Some n) = 0

-- the number of resources without a number
abbrev pub lacking : List (Option ℕ) → ℕ
lacking numbers = sum_by lacks numbers

-- resource q has a number of at most n, or waits for one: at the front for `level`, later for the next number
abbrev pub IsDue : List (Option ℕ) → ℕ → List ℕ → List ℕ → ℕ → ℕ → Type 0
IsDue numbers level front later q n =
    IsWithin numbers q n ⊎ ((Contains front q × (level ≤ n)) ⊎ (Contains later q × (level + 1 ≤ n)))

-- a search in progress: each number for which a resource waits is that of a way to an end; each end, and each driver of
-- a resource that has a number, has one too or waits; the first `at` resources at the front have one
pub record IsUnderWay (A : Arch) (ends : List ℕ) (numbers : List (Option ℕ)) (level : ℕ) (front : List ℕ) (at : ℕ) (later : List ℕ) : Type 0 where
  pub each : length numbers ≡ length A.resources
  pub fronts : (q : ℕ) → Contains front q → (q < length A.resources) × Reaches A ends q level
  pub laters : (q : ℕ) → Contains later q → (q < length A.resources) × Reaches A ends q (level + 1)
  pub low : (q n : ℕ) → number numbers q ≡ Some n → n ≤ level
  pub begun : (r : ℕ) → Contains ends r → IsDue numbers level front later r 0
  pub onward : (q r n : ℕ) → number numbers r ≡ Some n → Contains (resource A r).drivers q →
      IsDue numbers level front later q (n + delay A r)
  pub passed : (i : ℕ) → i < at → HasNumber numbers (slice_index front i)
  pub reached : at ≤ length front

-- search s is in progress
abbrev pub IsSearch : Arch → List ℕ → Search → Type 0
IsSearch A ends s = IsUnderWay A ends s.numbers.items s.level s.front.items s.at s.later.items

-- resource numbers below `count`
abbrev pub AreBelow : ℕ → List ℕ → Type 0
AreBelow count list = (r : ℕ) → Contains list r → r < count

-- `next` is the first index from `at` on of a resource without a number, or the end of the list
pub record IsNext (numbers : List (Option ℕ)) (front : List ℕ) (at next : ℕ) : Type 0 where
  pub from : at ≤ next
  pub within : next ≤ length front
  pub passed : (i : ℕ) → at ≤ i → i < next → HasNumber numbers (slice_index front i)
  pub here : next < length front → number numbers (slice_index front next) ≡ None

-- the marks of the first `place` resources of a list, among `count`
pub record AreMarks (list : List ℕ) (place count : ℕ) (marks : List Bool) : Type 0 where
  pub each : length marks ≡ count
  pub right : (r : ℕ) → (slice_index_or marks r false ≡ true) ↔ ((i : ℕ) × (i < place) × (slice_index list i ≡ r))

-- a search that begins at the ends, among `count` resources
pub record IsBegun (ends : List ℕ) (count : ℕ) (s : Search) : Type 0 where
  pub numbers : s.numbers.items ≡ replicate count None
  pub level : s.level ≡ 0
  pub front : s.front.items ≡ ends
  pub at : s.at ≡ 0
  pub later : s.later.items ≡ []

-- search t is search s advanced to the first resource from `at` on that has no number, or to the end of the front
pub record IsSkipped (s t : Search) : Type 0 where
  pub numbers : t.numbers.items ≡ s.numbers.items
  pub level : t.level ≡ s.level
  pub front : t.front.items ≡ s.front.items
  pub at : IsNext s.numbers.items s.front.items s.at t.at
  pub later : t.later.items ≡ s.later.items

-- search t is search s advanced to the next number, for which the resources of `later` now wait
pub record IsRisen (s t : Search) : Type 0 where
  pub numbers : t.numbers.items ≡ s.numbers.items
  pub level : t.level ≡ s.level + 1
  pub front : t.front.items ≡ s.later.items
  pub at : t.at ≡ 0
  pub later : t.later.items ≡ []

-- resource r at the front lacks a number
abbrev pub IsOpen : ℕ → Search → Type 0
IsOpen r s = (s.at < length s.front.items) × (slice_index s.front.items s.at ≡ r) × (number s.numbers.items r ≡ None)

-- no resource waits
abbrev pub IsOver : Search → Type 0
IsOver s = (s.at ≡ length s.front.items) × (s.later.items ≡ [])

-- resource r has the number of the front, and its drivers wait: for that number too, or for the next one if r is a
-- register
pub record IsSettled (A : Arch) (r : ℕ) (s t : Search) : Type 0 where
  pub numbers : t.numbers.items ≡ slice_set s.numbers.items r (Some s.level)
  pub level : t.level ≡ s.level
  pub front : t.front.items ≡ (if eqb (delay A r) 0 then s.front.items ++ (resource A r).drivers else s.front.items)
  pub at : t.at ≡ s.at
  pub later : t.later.items ≡ (if eqb (delay A r) 0 then s.later.items else s.later.items ++ (resource A r).drivers)
