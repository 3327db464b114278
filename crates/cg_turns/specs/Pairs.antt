-- Pairs of accesses that no edges order.
use Rattle.std.specs.Prelude.{◌≡◌, ℕ, ◌+◌, ◌*◌, ◌/◌, ◌%◌, ◌<◌, ◌≤◌, ◌⊎◌, true, length, Option, Some, None}
use Rattle.cg_word.specs.Word.{is_store}
use Rattle.cg_model.specs.Kernel.{Kernel, size, node}
use Rattle.cg_model.specs.Work.{Image, Reaches}
use Rattle.cg_model.specs.Turns.{work}
use Rattle.cg_model.specs.Order.{IsOrdered, IsUnaliased}
use Rattle.cg_turns.specs.declared.pair.Access.{Access}
use Rattle.cg_turns.specs.declared.pair.UnorderedPair.{UnorderedPair}

-- the number of the step of an access, for a kernel of m nodes
abbrev pub step_of : ℕ → Access → ℕ
step_of m a = a.turn * m + a.node

-- at least one of two nodes is a store
abbrev pub IsRival : Kernel → ℕ → ℕ → Type 0
IsRival K u v = (is_store (node K u).op ≡ true) ⊎ (is_store (node K v).op ≡ true)

-- an earlier step k and a later step l access one word of the memory, and one of the two is a store
pub record IsConflict (K : Kernel) (image : Image) (k l : ℕ) : Type 0 where
  pub earlier : k < l
  pub word : ℕ
  pub within : word < length image.memory
  pub first : Reaches (work K image k) word
  pub second : Reaches (work K image l) word
  pub rival : IsRival K (k % size K) (l % size K)

-- step k is ordered before step l
abbrev pub AreOrdered : Kernel → ℕ → ℕ → Type 0
AreOrdered K k l = IsOrdered K (k % size K) (k / size K) (l % size K) (l / size K)

-- a conflict that no edges order
pub record IsUnordered (K : Kernel) (image : Image) (k l : ℕ) : Type 0 where
  pub conflict : IsConflict K image k l
  pub unordered : AreOrdered K k l → ⊥

-- of the unordered pairs among the first `steps` steps, the one with the least later step, and with the latest earlier
-- step for it
pub record IsFirstPair (K : Kernel) (image : Image) (steps k l : ℕ) : Type 0 where
  pub pair : IsUnordered K image k l
  pub within : l < steps
  pub least : (i j : ℕ) → j < steps → IsUnordered K image i j → l ≤ j
  pub latest : (i : ℕ) → IsUnordered K image i l → i ≤ k

-- the first pair among the first `steps` steps, with its nodes and turns
pub record IsPair (K : Kernel) (image : Image) (steps : ℕ) (p : UnorderedPair) : Type 0 where
  pub earlier : p.earlier.node < size K
  pub later : p.later.node < size K
  pub first : IsFirstPair K image steps (step_of (size K) p.earlier) (step_of (size K) p.later)

-- the result of n turns: None where the run is unaliased, else its first pair
abbrev pub IsPairOf : Kernel → ℕ → Image → Option UnorderedPair → Type 0
IsPairOf K n image None = IsUnaliased K n image
IsPairOf K n image (Some p) = IsPair K image (n * size K) p
