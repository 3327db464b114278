-- When a rewritten kernel does what a given one does, node by node and turn by turn.
use Rattle.std.specs.Prelude.{◌≡◌, ℕ, ◌+◌, ◌*◌, ◌<◌, ◌≤◌, ◌⊎◌, true, List}
use Rattle.cg_word.specs.Word.{is_access, is_store}
use Rattle.cg_model.specs.Kernel.{Kernel, size, node}
use Rattle.cg_model.specs.Work.{Image, Work, value, stores, sends, stored, sent, missed}
use Rattle.cg_model.specs.Turns.{before, work, work_of, val, turns, turns_left}

-- w stores a word or sends one to a port
abbrev pub HasEffect : Work → Type 0
HasEffect w = (stores w ≡ true) ⊎ ((port : ℕ) × (sends port w ≡ true))

-- w may stand for step k of K, with x for its value: over the memory before the step it has the value x, it stores on
-- every memory and sends to every port what the step does, and it is outside a memory only where the step is, whatever
-- the memory's size
pub record StandsFor (K : Kernel) (image : Image) (k : ℕ) (w : Work) (x : ℕ) : Type 0 where
  pub gives : value image (before K image k).memory w ≡ x
  pub writes : (memory : List ℕ) → stored memory w ≡ stored memory (work K image k)
  pub appends : (port : ℕ) → sent port w ≡ sent port (work K image k)
  pub misses : (room : ℕ) → missed room w ≤ missed room (work K image k)

-- K is the given kernel and L the rewritten one. Node v of L stands for node f v of K, and W v i is a word for it in
-- turn i.
pub record Follows (K L : Kernel) (image : Image) (n : ℕ) (f : ℕ → ℕ) (W : ℕ → ℕ → ℕ) : Type 0 where
  -- nodes of L stand for nodes of K, no two for one
  pub inside : (v : ℕ) → v < size L → f v < size K
  pub apart : (v w : ℕ) → v < size L → w < size L → f v ≡ f w → v ≡ w
  -- for a node of K that stores or sends something in one of the n turns, a node of L stands
  pub effects : (u i : ℕ) → u < size K → i < n → HasEffect (work K image (i * size K + u)) →
      (v : ℕ) × (v < size L) × (f v ≡ u)
  -- two accesses of L, of which one is a store, stand for nodes of K in the same order
  pub ordered : (v w : ℕ) → v < w → w < size L →
      is_access (node L v).op ≡ true → is_access (node L w).op ≡ true →
      (is_store (node L v).op ≡ true) ⊎ (is_store (node L w).op ≡ true) → f v < f w
  -- in each of the n turns a node of L does on the words of its operands what the step does for which it stands
  pub does : (v i : ℕ) → v < size L → i < n →
      StandsFor K image (i * size K + f v) (work_of (node L v) i W) (W v i)

-- in each of the n turns the values of L's nodes are these words, and n turns of L leave the memory and the streams that
-- n turns of K leave, with no more accesses outside the memory
pub record RunsAlike (K L : Kernel) (image : Image) (n : ℕ) (W : ℕ → ℕ → ℕ) : Type 0 where
  pub values : (v i : ℕ) → v < size L → i < n → val L image v i ≡ W v i
  pub works : (v i : ℕ) → v < size L → i < n → work L image (i * size L + v) ≡ work_of (node L v) i W
  pub memory : (turns L n image).memory ≡ (turns K n image).memory
  pub streams : (port : ℕ) → (turns L n image).streams port ≡ (turns K n image).streams port
  pub outside : (turns L n image).outside ≤ (turns K n image).outside
  pub left : (turns_left L n image).image ≡ (turns_left K n image).image
