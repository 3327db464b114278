-- `bench ARCH BITS TURNS IN OUT`.
use Rattle.std.specs.Prelude.{ℕ, [], ◌∷◌}
use Rattle.cg_model.specs.Work.{Image}
use Rattle.cg_model.specs.Array.{Arch}
use Rattle.cg_model.specs.Config.{Config}
use Rattle.cg_model.specs.Machine.{cycles, machine_left}
use Rattle.cg_files.specs.Held.{Holds, Appends}
use Rattle.cg_effects.specs.declared.outcome.Status.TheVariants.{Done}
use Rattle.cg_effects.specs.Outcome.{Name, File, Outcome}
use Rattle.cg_effects.specs.Ends.{Moment}
use Rattle.cg_command_run.specs.Run.{HoldStart, IsArrayCommand, LeavesTurns, run_report}
use Rattle.cg_testbench.specs.Bench.{bench_text}

-- the test bench for n iterations of the array under the configuration from the image, with what the array leaves, is
-- written; the report is that of a run
abbrev pub benched : ℕ → Name → Arch → Config → Image → Outcome
benched n out A C image = record {
  status = Done;
  report = run_report (cycles C n) (machine_left A C n image).outside;
  writes = record { name = out; bytes = bench_text A C n image (machine_left A C n image) } ∷ [];
}

abbrev pub IsBench : ℕ → File → File → File → Name → Outcome → Type 0
IsBench n arch file input out o = IsArrayCommand (benched n out) arch file input o

-- Done: the test bench for the array and the image that were read is held under the last name, and the numbers of cycles
-- and of outside accesses of the array's run were reported
pub record IsBenchRun (n : ℕ) (arch file input out : Name) (before after : Moment) : Type 0 where
  pub read : HoldStart arch file input before
  pub written : Holds after.held out (bench_text read.array read.config n read.image (machine_left read.array read.config n read.image))
  pub put : Appends before.taken (run_report (cycles read.config n) (machine_left read.array read.config n read.image).outside) after.taken
  pub turns : LeavesTurns read.array n read.image read.config read.bytes
