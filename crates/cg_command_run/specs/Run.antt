-- `run ARCH BITS TURNS IN OUT`, and the answers of all commands that run an array.
use Rattle.std.specs.Prelude.{◌≡◌, ◌≤◌, ◌⊎◌, ℕ, nat_lt, if◌then◌else◌, [], ◌∷◌, length, Result, Ok, codes, decimal}
use Rattle.cg_model.specs.Work.{Image, Left}
use Rattle.cg_model.specs.Array.{Arch}
use Rattle.cg_model.specs.Kernel.{Kernel, IsKernel}
use Rattle.cg_model.specs.Turns.{turns_left}
use Rattle.cg_model.specs.Order.{IsUnaliased, HasNoAccess}
use Rattle.cg_model.specs.Mapping.{Mapping, IsLegal}
use Rattle.cg_model.specs.Configured.{configuration_of}
use Rattle.cg_model.specs.Config.{Config}
use Rattle.cg_model.specs.Machine.{cycles, machine_left}
use Rattle.cg_effects.specs.declared.outcome.Status.TheVariants.{Done}
use Rattle.cg_files.specs.Held.{Holds, Appends}
use Rattle.cg_effects.specs.Outcome.{Name, Bytes, File, Outcome, line_of, line_then}
use Rattle.cg_effects.specs.Ends.{Moment}
use Rattle.cg_effects.specs.Refusals.{malformed_of}
use Rattle.cg_tiles.specs.Answer.{AreValidBytes}
use Rattle.cg_bits.specs.Answers as bits
use Rattle.cg_bits.specs.Spelling.{AreBits}
use Rattle.cg_pad.specs.Bytes as images
use Rattle.cg_datapath.specs.declared.fault.SimFault.TheVariants.{ImageTooLarge}
use Rattle.cg_datapath.specs.Texts.{sim_fault_text}
use Rattle.cg_inputs.specs.Answered.{ReadBoth, ReadThen}
use Rattle.cg_inputs.specs.Readings.{ReadsArray, ReadsImage}

-- the number of cycles of the run, and the number of accesses outside the memory
abbrev pub run_report : ℕ → ℕ → Bytes
run_report cycles outside =
    line_then (codes "cycles " ∷ decimal cycles ∷ []) (line_of (codes "outside " ∷ decimal outside ∷ []))

-- a run of this many cycles left this image and this count of outside accesses; the image is written
abbrev pub left_outcome : ℕ → Left → Name → Outcome
left_outcome cycles left out = record {
  status = Done;
  report = run_report cycles left.outside;
  writes = record { name = out; bytes = images.image_bytes left.image } ∷ [];
}

-- the image has more words than the architecture's memory
abbrev pub too_large : Name → Image → Outcome
too_large input image = malformed_of input (sim_fault_text (ImageTooLarge (length image.memory)))

-- ---- a command that runs an array: `ran` is the outcome of the run

-- unless the image has more words than the architecture's memory
abbrev pub run_by_size : Arch → Name → Image → Outcome → Outcome
run_by_size A input image ran = if nat_lt A.memory (length image.memory) then too_large input image else ran

-- the array and then the image are read
abbrev pub ReadsStart : File → File → File → Result ((Arch × Config) × Image) Outcome → Type 0
ReadsStart arch file input r = ReadBoth (ReadsArray arch file) (λ a. ReadsImage input) r

-- the array under the configuration is run from the image
abbrev pub RunsFrom : (Arch → Config → Image → Outcome) → Name → Arch → Config → Image → Outcome → Type 0
RunsFrom ran input A C image o = o ≡ run_by_size A input image (ran A C image)

abbrev pub RunsArray : (Arch → Config → Image → Outcome) → Name → (Arch × Config) × Image → Outcome → Type 0
RunsArray ran input s o = RunsFrom ran input s.0.0 s.0.1 s.1 o

abbrev pub IsArrayCommand : (Arch → Config → Image → Outcome) → File → File → File → Outcome → Type 0
IsArrayCommand ran arch file input o = ReadThen (ReadsStart arch file input) (RunsArray ran input.name) o

-- files of these names are held and contain an architecture, a canonical configuration of it, which the bytes encode,
-- and an image that fits its memory
pub record HoldStart (arch file input : Name) (before : Moment) : Type 0 where
  pub arch_bytes : Bytes
  pub arch_held : Holds before.held arch arch_bytes
  pub array : Arch
  pub given : AreValidBytes arch_bytes array
  pub bytes : Bytes
  pub held : Holds before.held file bytes
  pub config : Config
  pub config_is : bits.answer_of array bytes ≡ Ok config
  pub spelled : AreBits array config bytes
  pub image_bytes : Bytes
  pub image_held : Holds before.held input image_bytes
  pub image : Image
  pub image_is : images.answer_of image_bytes ≡ Ok image
  pub fits : length image.memory ≤ array.memory

-- where the bytes are those of a legal mapping of a kernel, whose edges order the accesses that matter or whose nodes
-- don't reach the memory, the kernel's iterations leave what is left
abbrev pub AreTurnsLeft : Left → Arch → ℕ → Image → Bytes → Type 0
AreTurnsLeft left A n image bytes =
    (K : Kernel) (M : Mapping) → IsKernel K → IsLegal A K M → AreBits A (configuration_of A K M) bytes →
    IsUnaliased K n image ⊎ HasNoAccess K → left ≡ turns_left K n image

-- the array leaves that
abbrev pub LeavesTurns : Arch → ℕ → Image → Config → Bytes → Type 0
LeavesTurns A n image C bytes = AreTurnsLeft (machine_left A C n image) A n image bytes

-- ---- `run`

-- the array ran the configuration from the image
abbrev pub ran : ℕ → Name → Arch → Config → Image → Outcome
ran n out A C image = left_outcome (cycles C n) (machine_left A C n image) out

abbrev pub IsRun : ℕ → File → File → File → Name → Outcome → Type 0
IsRun n arch file input out o = IsArrayCommand (ran n out) arch file input o

-- the files contain an architecture, a canonical configuration of it and an image that fits its memory
pub record IsRunnable (arch file input : File) : Type 0 where
  pub array : Arch
  pub given : AreValidBytes arch.bytes array
  pub config : Config
  pub config_is : bits.answer_of array file.bytes ≡ Ok config
  pub image : Image
  pub image_is : images.answer_of input.bytes ≡ Ok image
  pub fits : length image.memory ≤ array.memory

-- Done: the array that was read ran from the image that was read; what it leaves after the iterations is held under the
-- last name, and the numbers of cycles and of outside accesses were reported
pub record IsArrayRun (n : ℕ) (arch file input out : Name) (before after : Moment) : Type 0 where
  pub read : HoldStart arch file input before
  pub written : Holds after.held out (images.image_bytes (machine_left read.array read.config n read.image).image)
  pub put : Appends before.taken (run_report (cycles read.config n) (machine_left read.array read.config n read.image).outside) after.taken
  pub turns : LeavesTurns read.array n read.image read.config read.bytes
