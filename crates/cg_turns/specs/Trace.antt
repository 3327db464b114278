-- How the pair of accesses that no edges order is found: from the last store to each word and the loads of it since.
use Rattle.std.specs.Prelude.{◌≡◌, ℕ, ◌/◌, ◌%◌, ◌<◌, ◌≤◌, ◌⊎◌, Bool, true, false, List, [], Contains, Option, Some, None, nat_lt, if◌then◌else◌}
use Rattle.cg_word.specs.Word.{is_store}
use Rattle.cg_model.specs.Kernel.{Kernel, size, node}
use Rattle.cg_model.specs.Work.{Image, Reaches}
use Rattle.cg_model.specs.Turns.{work}
use Rattle.cg_model.specs.Order.{IsOrdered}
use Rattle.cg_turns.specs.declared.pair.Access.{Access}
use Rattle.cg_turns.specs.declared.pair.UnorderedPair.{UnorderedPair}
use Rattle.cg_turns.specs.Pairs.{step_of, IsConflict, AreOrdered, IsPair}

-- what is known after a number of steps: None where all conflicts so far are ordered
abbrev pub IsPairSoFar : Kernel → Image → ℕ → Option UnorderedPair → Type 0
IsPairSoFar K image steps None = (k l : ℕ) → l < steps → IsConflict K image k l → AreOrdered K k l
IsPairSoFar K image steps (Some p) = IsPair K image steps p

-- the access past the end of a list
abbrev pub no_access : Access
no_access = record { node = 0; turn = 0 }

-- the accesses to a word that are kept: the last store, and loads since
pub record Kept : Type 0 where
  pub store : Option Access
  pub loads : List Access

abbrev pub nothing_kept : Kept
nothing_kept = record { store = None; loads = [] }

-- a list has an access of a node in a turn or later
abbrev pub Covers : List Access → ℕ → ℕ → Type 0
Covers accesses v i = (x : Access) × Contains accesses x × (x.node ≡ v) × (i ≤ x.turn)

-- step k is no later than a store
abbrev pub IsUpTo : ℕ → Option Access → ℕ → Type 0
IsUpTo m store k = (s : Access) × (store ≡ Some s) × (k ≤ step_of m s)

-- an access of a word before a step
pub record IsAccess (K : Kernel) (image : Image) (steps word : ℕ) (x : Access) : Type 0 where
  pub node : x.node < size K
  pub past : step_of (size K) x < steps
  pub reach : Reaches (work K image (step_of (size K) x)) word

-- the accesses to one word that are kept before a step: the store and the loads are accesses of the word before that
-- step, no store accessed it later than the kept one, and each step that accessed it is no later than that store, or
-- its node has a load in the same turn or a later one
pub record IsTrace (K : Kernel) (image : Image) (steps word : ℕ) (kept : Kept) : Type 0 where
  pub store : (s : Access) → kept.store ≡ Some s → IsAccess K image steps word s × (is_store (node K s.node).op ≡ true)
  pub loads : (x : Access) → Contains kept.loads x → IsAccess K image steps word x
  pub stores : (k : ℕ) → k < steps → Reaches (work K image k) word → is_store (node K (k % size K)).op ≡ true → IsUpTo (size K) kept.store k
  pub whole : (k : ℕ) → k < steps → Reaches (work K image k) word → IsUpTo (size K) kept.store k ⊎ Covers kept.loads (k % size K) (k / size K)

-- a list has the accesses of another, or later ones of their nodes, and no others
pub record IsThinned (old new : List Access) : Type 0 where
  pub covers : (y : Access) → Contains old y → Covers new y.node y.turn
  pub origin : (y : Access) → Contains new y → Contains old y

-- a list has one more access, or a later one of its node
pub record Takes (x : Access) (old new : List Access) : Type 0 where
  pub has : Covers new x.node x.turn
  pub covers : (y : Access) → Contains old y → Covers new y.node y.turn
  pub origin : (y : Access) → Contains new y → (y ≡ x) ⊎ Contains old y

-- a store replaces everything that is kept, and a load is kept in addition to the last store and the other loads
abbrev pub Keeps : Bool → Access → Kept → Kept → Type 0
Keeps true x old new = new ≡ record { store = Some x; loads = [] }
Keeps false x old new = (new.store ≡ old.store) × Takes x old.loads new.loads

-- the loads with which an access can form a pair: all for a store, none for a load
abbrev pub rivals_of : Bool → Kept → List Access
rivals_of true kept = kept.loads
rivals_of false kept = []

-- an optional store, or an access in a list
abbrev pub IsOneOf : Option Access → List Access → Access → Type 0
IsOneOf store loads x = (store ≡ Some x) ⊎ Contains loads x

-- of an optional store and loads, the latest that is not ordered before another access
abbrev pub IsLatest : Kernel → Access → Option Access → List Access → Option Access → Type 0
IsLatest K later store loads None = (y : Access) → IsOneOf store loads y → IsOrdered K y.node y.turn later.node later.turn
IsLatest K later store loads (Some x) =
    IsOneOf store loads x × (IsOrdered K x.node x.turn later.node later.turn → ⊥) ×
    ((y : Access) → IsOneOf store loads y → IsOrdered K y.node y.turn later.node later.turn ⊎ (step_of (size K) y ≤ step_of (size K) x))

-- the later of an optional access and another one
abbrev pub later_access : ℕ → Option Access → Access → Option Access
later_access m None y = Some y
later_access m (Some x) y = if nat_lt (step_of m x) (step_of m y) then Some y else Some x

-- after one more access was considered, the latest that is not ordered before another
abbrev pub IsLooked : Kernel → ℕ → Access → Access → Option Access → Option Access → Type 0
IsLooked K m later y old new =
    (IsOrdered K y.node y.turn later.node later.turn × (new ≡ old)) ⊎
    ((IsOrdered K y.node y.turn later.node later.turn → ⊥) × (new ≡ later_access m old y))

-- the pair of an earlier access, if there is one, and a later one
abbrev pub paired : Access → Option Access → Option UnorderedPair
paired later None = None
paired later (Some x) = Some (record { earlier = x; later = later })

-- the pair that an access forms with the kept accesses, if there is one
abbrev pub IsCompared : Kernel → Bool → Access → Kept → Option UnorderedPair → Type 0
IsCompared K stores later kept pair = (found : Option Access) × IsLatest K later kept.store (rivals_of stores kept) found × (pair ≡ paired later found)
