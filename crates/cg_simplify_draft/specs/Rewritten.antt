-- What each pass over a kernel gives: another kernel whose nodes stand for nodes of the given one in every run.
use Rattle.std.specs.Prelude.{◌≡◌, ℕ, ◌+◌, ◌*◌, ◌<◌, ◌≤◌, ◌⊎◌, true}
use Rattle.cg_word.specs.Word.{is_access, is_store}
use Rattle.cg_model.specs.Kernel.{Kernel, size, node}
use Rattle.cg_model.specs.Work.{Image, IsImage, Reaches}
use Rattle.cg_model.specs.Turns.{work, turns, turns_left}

-- n turns of L leave the memory and the streams that n turns of K leave, with no more accesses outside the memory
pub record LeavesAlike (K L : Kernel) (image : Image) (n : ℕ) : Type 0 where
  pub memory : (turns L n image).memory ≡ (turns K n image).memory
  pub streams : (port : ℕ) → (turns L n image).streams port ≡ (turns K n image).streams port
  pub outside : (turns L n image).outside ≤ (turns K n image).outside
  pub left : (turns_left L n image).image ≡ (turns_left K n image).image

-- node v of L is node `from v` of K, by its name too; in every run from an image it reaches no other words, and the runs
-- leave the same memory and streams
pub record IsRewritten (K L : Kernel) : Type 0 where
  pub from : ℕ → ℕ
  pub inside : (v : ℕ) → v < size L → from v < size K
  pub apart : (v w : ℕ) → v < size L → w < size L → from v ≡ from w → v ≡ w
  pub named : (v : ℕ) → v < size L → (node L v).name ≡ (node K (from v)).name
  -- it is an access or a store only where that node is one
  pub accesses : (v : ℕ) → v < size L → is_access (node L v).op ≡ true →
      is_access (node K (from v)).op ≡ true
  pub stores : (v : ℕ) → v < size L → is_store (node L v).op ≡ true →
      is_store (node K (from v)).op ≡ true
  -- of two accesses of which one stores, the earlier stands for the earlier
  pub ordered : (v w : ℕ) → v < w → w < size L → is_access (node L v).op ≡ true → is_access (node L w).op ≡ true →
      (is_store (node L v).op ≡ true) ⊎ (is_store (node L w).op ≡ true) → from v < from w
  pub runs : (image : Image) (n : ℕ) → IsImage image → LeavesAlike K L image n
  pub reaches : (image : Image) (v i a : ℕ) → IsImage image → v < size L → Reaches (work L image (i * size L + v)) a →
      Reaches (work K image (i * size K + from v)) a
