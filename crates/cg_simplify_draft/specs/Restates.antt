-- A kernel whose nodes do on the values of a given kernel what the given kernel's nodes do.
use Rattle.std.specs.Prelude.{◌≡◌, ℕ, ◌<◌, ◌≤◌, true, List}
use Rattle.cg_word.specs.Word.{is_access, is_store}
use Rattle.cg_model.specs.Kernel.{Kernel, size, node}
use Rattle.cg_model.specs.Work.{Image, IsImage, Reaches, Work, missed, sent, stored, value}
use Rattle.cg_model.specs.Turns.{val, work_of}

-- w does what x does: over every memory it has x's value, it stores and sends what x does, and it reaches no other word
pub record DoesAs (w x : Work) : Type 0 where
  pub gives : (image : Image) (memory : List ℕ) → value image memory w ≡ value image memory x
  pub writes : (memory : List ℕ) → stored memory w ≡ stored memory x
  pub appends : (port : ℕ) → sent port w ≡ sent port x
  pub misses : (room : ℕ) → missed room w ≤ missed room x
  pub reaches : (a : ℕ) → Reaches w a → Reaches x a

-- L has the nodes of K, by name too, and in every run of K from an image each does on K's values what K's node does
pub record Restates (K L : Kernel) : Type 0 where
  pub sized : size L ≡ size K
  pub named : (v : ℕ) → v < size L → (node L v).name ≡ (node K v).name
  pub accesses : (v : ℕ) → v < size L → is_access (node L v).op ≡ true → is_access (node K v).op ≡ true
  pub stores : (v : ℕ) → v < size L → is_store (node L v).op ≡ true → is_store (node K v).op ≡ true
  pub does : (image : Image) (v i : ℕ) → IsImage image → v < size L →
      DoesAs (work_of (node L v) i (val K image)) (work_of (node K v) i (val K image))
