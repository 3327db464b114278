-- What holds of the two runs of each seed.
use Rattle.std.specs.Prelude.{◌≡◌, ℕ}
use Rattle.cg_command_run.specs.Report.{run_image, turns_image}

-- the array leaves the image that the iterations of the kernel leave, and so the two digests are equal
pub record LeavesSame (seed : ℕ) : Type 0 where
  pub image : run_image seed ≡ turns_image seed
