-- The order in which the resources of an architecture are evaluated within a cycle: each after those whose words it
-- takes in the same cycle. An order exists unless they form a loop.
use Rattle.std.specs.Prelude.{◌≡◌, ℕ, ◌+◌, ◌-◌, ◌<◌, ◌≤◌, List, [], length, take, Contains, slice_index, slice_index_or}
use Rattle.cg_model.specs.declared.array.Resource.{Resource}
use Rattle.cg_model.specs.declared.array.Kind.TheVariants.{Wire}
use Rattle.cg_model.specs.Array.{delay_by}

-- resource r of a list; past the last one, a wire without drivers
abbrev pub resource_at : List Resource → ℕ → Resource
resource_at rs r = slice_index_or rs r (record { name = []; kind = Wire; drivers = [] })

-- every driver of a resource is a resource
abbrev pub AreKnown : List Resource → Type 0
AreKnown rs = (q r : ℕ) → Contains (resource_at rs r).drivers q → q < length rs

-- resource q drives resource r in the same cycle: it is one of its drivers, and r is not a register
pub record Passes (rs : List Resource) (q r : ℕ) : Type 0 where
  pub driver : Contains (resource_at rs r).drivers q
  pub at_once : delay_by (resource_at rs r).kind ≡ 0

-- a list of all resources, each once, in which each comes after those that drive it in the same cycle
pub record IsTopological (rs : List Resource) (order : List ℕ) : Type 0 where
  pub long : length order ≡ length rs
  pub known : (k : ℕ) → k < length order → slice_index order k < length rs
  pub all : (r : ℕ) → r < length rs → Contains order r
  pub rising : (k q : ℕ) → k < length order → Passes rs q (slice_index order k) → Contains (take k order) q

-- a ring of resources, each driven in the same cycle by the one before it and the first by the last,
-- none twice, with the least first
pub record IsCombinationalLoop (rs : List Resource) (loop : List ℕ) : Type 0 where
  pub some : 0 < length loop
  pub known : (k : ℕ) → k < length loop → slice_index loop k < length rs
  pub once : (j k : ℕ) → j < length loop → k < length loop → slice_index loop j ≡ slice_index loop k → j ≡ k
  pub links : (k : ℕ) → k + 1 < length loop → Passes rs (slice_index loop k) (slice_index loop (k + 1))
  pub closed : Passes rs (slice_index loop (length loop - 1)) (slice_index loop 0)
  pub least : (k : ℕ) → k < length loop → slice_index loop 0 ≤ slice_index loop k

-- levels below the number of resources, which rise from each resource to those that it drives in the
-- same cycle
pub record AreLevels (rs : List Resource) (level : ℕ → ℕ) : Type 0 where
  pub levels : (r : ℕ) → r < length rs → level r < length rs
  pub rising : (q r : ℕ) → Passes rs q r → level q < level r
