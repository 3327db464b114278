-- What holds of a simplified kernel: it has no more nodes, leaves the same, and is ordered where the given one is.
use Rattle.std.specs.Prelude.{◌≡◌, ℕ, ◌<◌, ◌≤◌}
use Rattle.cg_model.specs.Kernel.{Kernel, node, size}
use Rattle.cg_model.specs.Limits.{most_turns}
use Rattle.cg_model.specs.Order.{IsUnaliased}
use Rattle.cg_model.specs.Turns.{turns_left}
use Rattle.cg_model.specs.Work.{Image, IsImage}

-- n turns of the two kernels leave the same memory and output streams of an image, and those of L reach past the end of
-- the memory at most as often
pub record LeavesSame (K L : Kernel) (n : ℕ) (image : Image) : Type 0 where
  pub left : (turns_left L n image).image ≡ (turns_left K n image).image
  pub outside : (turns_left L n image).outside ≤ (turns_left K n image).outside

-- K is the given kernel and L the simplified one
pub record IsSimplified (K L : Kernel) : Type 0 where
  pub fewer : size L ≤ size K
  -- each node of L has the name of a node of K
  pub named : (v : ℕ) → v < size L → (u : ℕ) × (u < size K) × ((node L v).name ≡ (node K u).name)
  pub leaves : (n : ℕ) (image : Image) → IsImage image → LeavesSame K L n image
  -- in runs of at most 1,000,000 turns the accesses of L that matter are ordered wherever those of K are
  pub unaliased : (n : ℕ) (image : Image) → IsImage image → n ≤ most_turns → IsUnaliased K n image → IsUnaliased L n image
