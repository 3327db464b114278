-- `turns KERNEL TURNS IN OUT`.
use Rattle.std.specs.Prelude.{◌≡◌, ℕ, [], ◌∷◌, Option, Some, None, Result, Ok, codes, decimal}
use Rattle.cg_model.specs.Kernel.{Kernel, node}
use Rattle.cg_model.specs.Work.{Image}
use Rattle.cg_model.specs.Turns.{turns_left}
use Rattle.cg_model.specs.Order.{IsUnaliased}
use Rattle.cg_effects.specs.declared.outcome.Status.{Status}
use Rattle.cg_effects.specs.declared.outcome.Status.TheVariants.{Done, No}
use Rattle.cg_files.specs.Held.{Holds, Appends}
use Rattle.cg_effects.specs.Outcome.{Name, Bytes, File, Outcome, line_of, line_then}
use Rattle.cg_effects.specs.Ends.{Moment, IsPut}
use Rattle.cg_kernel.specs.Answer as kernels
use Rattle.cg_pad.specs.Bytes as images
use Rattle.cg_turns.specs.declared.pair.UnorderedPair.{UnorderedPair}
use Rattle.cg_turns.specs.Pairs.{IsPairOf}
use Rattle.cg_inputs.specs.Answered.{ReadBoth, ReadThen}
use Rattle.cg_inputs.specs.Readings.{ReadsImage, ReadsKernel}

-- the pair that no edges order: node and iteration of the earlier access, and then of the later
abbrev pub pair_line : Kernel → Option UnorderedPair → Bytes
pair_line K None = line_of (codes "ordered" ∷ [])
pair_line K (Some p) = line_of (codes "unordered " ∷ (node K p.earlier.node).name ∷ codes " " ∷ decimal p.earlier.turn
    ∷ codes " " ∷ (node K p.later.node).name ∷ codes " " ∷ decimal p.later.turn ∷ [])

abbrev pub image_report : Kernel → ℕ → Option UnorderedPair → Bytes
image_report K outside pair = line_then (codes "outside " ∷ decimal outside ∷ []) (pair_line K pair)

-- Done where all accesses that matter are ordered
abbrev pub pair_status : Option UnorderedPair → Status
pair_status None = Done
pair_status (Some p) = No

-- the iterations were run on the image: the result image is written even where the accesses aren't ordered
abbrev pub imaged : ℕ → Kernel → Image → Name → Option UnorderedPair → Outcome
imaged n K image out pair = record {
  status = pair_status pair;
  report = image_report K (turns_left K n image).outside pair;
  writes = record { name = out; bytes = images.image_bytes (turns_left K n image).image } ∷ [];
}

pub record IsImaged (n : ℕ) (K : Kernel) (image : Image) (out : Name) (o : Outcome) : Type 0 where
  pub pair : Option UnorderedPair
  pub first : IsPairOf K n image pair
  pub outcome : o ≡ imaged n K image out pair

-- the kernel and then the image are read
abbrev pub ReadsTurns : File → File → Result (Kernel × Image) Outcome → Type 0
ReadsTurns file input r = ReadBoth (ReadsKernel file) (λ K. ReadsImage input) r

abbrev pub IsImaging : ℕ → Name → Kernel × Image → Outcome → Type 0
IsImaging n out s o = IsImaged n s.0 s.1 out o

abbrev pub IsTurnsOnImage : ℕ → File → File → Name → Outcome → Type 0
IsTurnsOnImage n file input out o = ReadThen (ReadsTurns file input) (IsImaging n out) o

-- a kernel and an image were read, and the image that the iterations leave is held under the last name
pub record IsRunOnImage (n : ℕ) (file input out : Name) (before after : Moment) : Type 0 where
  pub bytes : Bytes
  pub held : Holds before.held file bytes
  pub kernel : Kernel
  pub spelled : kernels.answer_of bytes ≡ Ok kernel
  pub image_bytes : Bytes
  pub image_held : Holds before.held input image_bytes
  pub image : Image
  pub image_spelled : images.answer_of image_bytes ≡ Ok image
  pub written : Holds after.held out (images.image_bytes (turns_left kernel n image).image)

-- Done: all accesses that matter are ordered, and that was reported
pub record IsOrderedRun (n : ℕ) (file input out : Name) (before after : Moment) : Type 0 where
  pub run : IsRunOnImage n file input out before after
  pub unaliased : IsUnaliased run.kernel n run.image
  pub put : Appends before.taken (image_report run.kernel (turns_left run.kernel n run.image).outside None) after.taken

-- No: the first pair of accesses that no edges order was reported, in part if the put call failed
pub record IsUnorderedRun (n : ℕ) (file input out : Name) (before after : Moment) : Type 0 where
  pub run : IsRunOnImage n file input out before after
  pub pair : UnorderedPair
  pub first : IsPairOf run.kernel n run.image (Some pair)
  pub put : IsPut No (image_report run.kernel (turns_left run.kernel n run.image).outside (Some pair)) before after
