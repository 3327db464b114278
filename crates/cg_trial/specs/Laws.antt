-- What holds of the trial of each seed.
use Rattle.std.specs.Prelude.{ℕ}
use Rattle.cg_model.specs.Work.{Image}
use Rattle.cg_model.specs.Order.{IsUnaliased}
use Rattle.cg_hub.specs.Hub.{HubEnough}
use Rattle.cg_trial.specs.Drawn.{trial_kernel}
use Rattle.cg_trial.specs.Trial.{trial_arch}

-- all accesses of the kernel that matter are ordered, for every number of iterations and every image
abbrev pub AreOrdered : Type 0
AreOrdered = (seed n : ℕ) (image : Image) → IsUnaliased (trial_kernel seed) n image

-- at an interval of 64 cycles the hub suffices: no value needs more than three of the 96 registers, and 32 nodes take two
-- cycles each
abbrev pub IsEnough : Type 0
IsEnough = (seed : ℕ) → HubEnough trial_arch (trial_kernel seed) 64
