-- A walk over resources, from each to those that drive it in the same cycle.
use Rattle.std.specs.Prelude.{◌≡◌, ◌≢◌, ℕ, ◌+◌, ◌-◌, ◌*◌, ◌<◌, Bool, true, false, List, [], ◌∷◌, ◌++◌, length, take, count_by, Contains, slice_index, slice_index_or, slice_set}
use Rattle.cg_model.specs.declared.array.Resource.{Resource}
use Rattle.cg_model.specs.declared.array.Kind.{Kind}
use Rattle.cg_model.specs.declared.array.Kind.TheVariants.{Wire, Register, Port, Out}
use Rattle.cg_levelize.specs.declared.walk.Mark.{Mark}
use Rattle.cg_levelize.specs.declared.walk.Mark.TheVariants.{New, Open, Done}
use Rattle.cg_levelize.specs.declared.walk.Walk.{Walk}
use Rattle.cg_levelize.specs.Topological.{Passes, resource_at}

-- the mark of resource r; past the last one, new
abbrev pub mark : List Mark → ℕ → Mark
mark marks r = slice_index_or marks r New

-- a resource with that mark wasn't met yet
abbrev pub is_new : Mark → Bool
is_new New = true
is_new Open = false
is_new Done = false

-- a resource with that mark is in the order
abbrev pub is_done : Mark → Bool
is_done New = false
is_done Open = false
is_done Done = true

-- the drivers whose words a resource of that kind takes in the same cycle
abbrev pub taken : Kind → List ℕ → List ℕ
taken Register drivers = []
taken Wire drivers = drivers
taken Port drivers = drivers
taken Out drivers = drivers

-- the drivers whose words resource r takes in the same cycle
abbrev pub inputs : List Resource → ℕ → List ℕ
inputs rs r = taken (resource_at rs r).kind (resource_at rs r).drivers

-- a path leads from each resource to one that drives it in the same cycle, and to none twice
pub record IsPath (rs : List Resource) (path : List ℕ) : Type 0 where
  pub known : (k : ℕ) → k < length path → slice_index path k < length rs
  pub once : (j k : ℕ) → j < length path → k < length path → slice_index path j ≡ slice_index path k → j ≡ k
  pub links : (k : ℕ) → k + 1 < length path → Passes rs (slice_index path (k + 1)) (slice_index path k)

-- in the order each resource comes after those that drive it in the same cycle
pub record IsClosed (rs : List Resource) (order : List ℕ) : Type 0 where
  pub known : (k : ℕ) → k < length order → slice_index order k < length rs
  pub rising : (k q : ℕ) → k < length order → Passes rs q (slice_index order k) → Contains (take k order) q

-- the open resources are those on the path, and the done ones those in the order
pub record AreMarks (rs : List Resource) (marks : List Mark) (path order : List ℕ) : Type 0 where
  pub long : length marks ≡ length rs
  pub opened : (k : ℕ) → k < length path → mark marks (slice_index path k) ≡ Open
  pub on_path : (r : ℕ) → mark marks r ≡ Open → Contains path r
  pub in_order : (r : ℕ) → mark marks r ≡ Done → Contains order r
  pub count : count_by is_done marks ≡ length order

-- for each resource, the passed drivers, counted from the first, are done
pub record ArePassed (rs : List Resource) (passed order : List ℕ) : Type 0 where
  pub long : length passed ≡ length rs
  pub done : (r p : ℕ) → p < slice_index passed r → p < length (inputs rs r) → Contains order (slice_index (inputs rs r) p)

-- a walk keeps its path, its order, its marks and its count of drivers in agreement
pub record IsWalk (rs : List Resource) (w : Walk) : Type 0 where
  pub path : IsPath rs w.path.items
  pub order : IsClosed rs w.order.items
  pub marks : AreMarks rs w.marks.items w.path.items w.order.items
  pub passed : ArePassed rs w.passed.items w.order.items

-- the remaining work: each new resource is opened and closed, and each open one closed
abbrev pub left : Walk → ℕ
left w = 2 * count_by is_new w.marks.items + length w.path.items

-- no mark becomes new again
abbrev pub Keeps : Walk → Walk → Type 0
Keeps old new = (r : ℕ) → mark old.marks.items r ≢ New → mark new.marks.items r ≢ New

-- x is the last number of a list
abbrev pub IsLast : List ℕ → ℕ → Type 0
IsLast xs x = (0 < length xs) × (slice_index xs (length xs - 1) ≡ x)

-- resource r is opened, at the end of the path
pub record Opens (old new : Walk) (r : ℕ) : Type 0 where
  pub path : new.path.items ≡ old.path.items ++ r ∷ []
  pub marks : new.marks.items ≡ slice_set old.marks.items r Open
  pub order : new.order.items ≡ old.order.items
  pub passed : new.passed.items ≡ old.passed.items

-- the last resource of the path is closed, at the end of the order
pub record Closes (old new : Walk) (r : ℕ) : Type 0 where
  pub path : old.path.items ≡ new.path.items ++ r ∷ []
  pub marks : new.marks.items ≡ slice_set old.marks.items r Done
  pub order : new.order.items ≡ old.order.items ++ r ∷ []
  pub passed : new.passed.items ≡ old.passed.items

-- two walks with the same path, marks and order
pub record AreAlike (old new : Walk) : Type 0 where
  pub path : new.path.items ≡ old.path.items
  pub marks : new.marks.items ≡ old.marks.items
  pub order : new.order.items ≡ old.order.items

-- q drives resource r in the same cycle, and isn't done
pub record IsWaiting (rs : List Resource) (w : Walk) (r q : ℕ) : Type 0 where
  pub passes : Passes rs q r
  pub waits : mark w.marks.items q ≢ Done

-- all resources that drive resource r in the same cycle are done
abbrev pub AreDone : List Resource → Walk → ℕ → Type 0
AreDone rs w r = (q : ℕ) → Passes rs q r → Contains w.order.items q

-- a step leaves a walk with less to do
pub record IsStep (rs : List Resource) (old new : Walk) : Type 0 where
  pub walk : IsWalk rs new
  pub keeps : Keeps old new
  pub less : left new < left old

-- resource start was met and no resource is left on the path, so start is in the order
pub record Places (rs : List Resource) (old new : Walk) (start : ℕ) : Type 0 where
  pub walk : IsWalk rs new
  pub keeps : Keeps old new
  pub met : mark new.marks.items start ≢ New
  pub no_path : new.path.items ≡ []
