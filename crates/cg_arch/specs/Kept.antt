-- The data kept with a valid architecture.
use Rattle.std.specs.Prelude.{◌≡◌, ℕ, List}
use Rattle.sha2.specs.Sha256.{sha256}
use Rattle.cg_model.specs.Array.{Arch, IsArch}
use Rattle.cg_levelize.specs.Topological.{IsTopological}
use Rattle.cg_flat.specs.Text.{text_of}
use Rattle.cg_flat.specs.Slots.{all_select_at, all_unit_at}

-- the SHA-256 of an architecture's text
unfoldable pub digest_of : Arch → List ℕ
digest_of A = sha256 (text_of A)

-- its digest, an order in which each resource comes after those from which it takes its word in the same cycle, and the
-- positions of selects and units in a slot
pub record IsKept (A : Arch) (digest order selects units : List ℕ) : Type 0 where
  pub valid : IsArch A
  pub digest_is : digest ≡ digest_of A
  pub order_is : IsTopological A.resources order
  pub selects_are : selects ≡ all_select_at A
  pub units_are : units ≡ all_unit_at A
