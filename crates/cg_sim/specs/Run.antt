-- A run of the array, as contracts see it: the architecture, configuration, number of iterations and image, and the
-- number of cycles done.
use Rattle.std.specs.Prelude.{ℕ}
use Rattle.cg_model.specs.Work.{Image}
use Rattle.cg_model.specs.Array.{Arch}
use Rattle.cg_model.specs.Config.{Config}
use Rattle.cg_model.specs.Machine.{State, at_cycle, cycles}
use Rattle.cg_datapath.specs.Course.{Course}

-- an architecture with a configuration, the number of iterations and the image that they start from, and the number of
-- cycles done
pub record Run : Type 0 where
  pub arch : Arch
  pub config : Config
  pub n : ℕ
  pub image : Image
  pub done : ℕ

-- before the first cycle
abbrev pub start_of : Arch → Config → ℕ → Image → Run
start_of A C n image = record { arch = A; config = C; n = n; image = image; done = 0 }

-- the array at the start of the next cycle
abbrev pub state : Run → State
state r = at_cycle r.arch r.config r.n r.image r.done

-- the cycles of the whole run
abbrev pub all_cycles : Run → ℕ
all_cycles r = cycles r.config r.n

-- the run of a course
abbrev pub run_of : Course → Run
run_of k = record { arch = k.arch; config = k.config; n = k.n; image = k.image; done = k.done }
