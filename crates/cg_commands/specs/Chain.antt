-- Commands one after the other: a kernel is written, perhaps simplified, mapped, and the bits are run.
use Rattle.std.specs.Prelude.{◌≡◌, ℕ, ◌≤◌, [], ◌∷◌, Option, Some, Ok}
use Rattle.cg_model.specs.Kernel.{Kernel}
use Rattle.cg_model.specs.Limits.{most_turns}
use Rattle.cg_model.specs.Order.{IsUnaliased}
use Rattle.cg_model.specs.Work.{Image, IsImage}
use Rattle.cg_model.specs.Turns.{turns_left}
use Rattle.cg_model.specs.declared.request.Request.{Request}
use Rattle.cg_files.specs.Held.{Holds}
use Rattle.cg_effects.specs.Outcome.{Name, Bytes}
use Rattle.cg_effects.specs.Ends.{Moment}
use Rattle.cg_kernel.specs.Answer as kernels
use Rattle.cg_pad.specs.Bytes as images
use Rattle.cg_loop_syntax.specs.Loop.{Body}
use Rattle.cg_loop_reader.specs.Answer.{Spells}
use Rattle.cg_loop_laws.specs.Translate.{loop_kernel_of}
use Rattle.cg_loop_laws.specs.Laws.{HasRoom, LeavesLoop}
use Rattle.cg_command_files.specs.Loop.{IsLooped}
use Rattle.cg_command_files.specs.Simplify.{IsSimplifiedRun}
use Rattle.cg_command_map.specs.Search.{IsSearchRun}
use Rattle.cg_command_run.specs.Run.{IsArrayRun}

-- ---- calls

-- `search ARCH KERNEL BITS` and `run ARCH BITS TURNS IN OUT` each ended with 0, and the second began with what the first
-- left. The store tells what it holds, and the search didn't write over the architecture
pub record AreMappedAndRun (kernel arch bits input out : Name) (s : Request) (n : ℕ) (first second last : Moment) : Type 0 where
  pub searched : IsSearchRun s arch kernel (bits ∷ []) first second
  pub ran : IsArrayRun n arch bits input out second last
  pub files : Name → Option Bytes
  pub files_are : first.held ≡ Some files
  pub later_files : Name → Option Bytes
  pub later_files_are : second.held ≡ Some later_files
  pub arch_kept : later_files arch ≡ files arch

-- `loop SOURCE KERNEL`, and then these two
pub record AreThreeCalls (source kernel arch bits input out : Name) (s : Request) (n : ℕ) (first second third last : Moment) : Type 0 where
  pub looped : IsLooped source kernel first second
  pub mapped : AreMappedAndRun kernel arch bits input out s n second third last

-- `simplify GIVEN KERNEL`, and then these two
pub record AreSimplifiedCalls (given kernel arch bits input out : Name) (s : Request) (n : ℕ) (first second third last : Moment) : Type 0 where
  pub simplified : IsSimplifiedRun given kernel first second
  pub mapped : AreMappedAndRun kernel arch bits input out s n second third last

-- `loop SOURCE GIVEN`, and then these three
pub record AreFourCalls (source given kernel arch bits input out : Name) (s : Request) (n : ℕ) (first second third fourth last : Moment) : Type 0 where
  pub looped : IsLooped source given first second
  pub files : Name → Option Bytes
  pub files_are : second.held ≡ Some files
  pub rest : AreSimplifiedCalls given kernel arch bits input out s n second third fourth last

-- ---- what they do

-- the image that is held in the end is what the loop of the source leaves of the image that the run began with, on each
-- image whose memory has the words of all arrays. No premise orders accesses: the kernels of loops have ordered them
pub record DoesTheLoop (source input out : Name) (n : ℕ) (first before last : Moment) : Type 0 where
  pub bytes : Bytes
  pub held : Holds first.held source bytes
  pub body : Body
  pub spelled : Spells bytes body
  pub image_bytes : Bytes
  pub image_held : Holds before.held input image_bytes
  pub image : Image
  pub image_is : images.answer_of image_bytes ≡ Ok image
  pub written : Holds last.held out (images.image_bytes (turns_left (loop_kernel_of body) n image).image)
  pub same : HasRoom body image → LeavesLoop body n image

-- the image that is held in the end is what the turns of the given kernel leave of the image that the run began with,
-- where its words are words of 32 bits and the turns order all accesses that matter
pub record DoesTheKernel (given input out : Name) (n : ℕ) (first before last : Moment) : Type 0 where
  pub bytes : Bytes
  pub held : Holds first.held given bytes
  pub kernel : Kernel
  pub spelled : kernels.answer_of bytes ≡ Ok kernel
  pub image_bytes : Bytes
  pub image_held : Holds before.held input image_bytes
  pub image : Image
  pub image_is : images.answer_of image_bytes ≡ Ok image
  pub written : IsImage image → IsUnaliased kernel n image → Holds last.held out (images.image_bytes (turns_left kernel n image).image)

-- the image that is held in the end is what the loop of the source leaves of the image that the run began with, where its
-- words are words of 32 bits and its memory has the words of all arrays
pub record StillDoesTheLoop (source input out : Name) (n : ℕ) (first before last : Moment) : Type 0 where
  pub bytes : Bytes
  pub held : Holds first.held source bytes
  pub body : Body
  pub spelled : Spells bytes body
  pub image_bytes : Bytes
  pub image_held : Holds before.held input image_bytes
  pub image : Image
  pub image_is : images.answer_of image_bytes ≡ Ok image
  pub written : IsImage image → Holds last.held out (images.image_bytes (turns_left (loop_kernel_of body) n image).image)
  pub same : HasRoom body image → LeavesLoop body n image

-- three calls do what the loop does
abbrev pub CallsCompose : Type 0
CallsCompose =
    (source kernel arch bits input out : Name) (s : Request) (n : ℕ) (first second third last : Moment) →
    AreThreeCalls source kernel arch bits input out s n first second third last → DoesTheLoop source input out n first third last

-- three calls do what the given kernel does, though another one was mapped
abbrev pub SimplifiedCallsCompose : Type 0
SimplifiedCallsCompose =
    (given kernel arch bits input out : Name) (s : Request) (n : ℕ) (first second third last : Moment) → n ≤ most_turns →
    AreSimplifiedCalls given kernel arch bits input out s n first second third last → DoesTheKernel given input out n first third last

-- four calls do what the loop does, though another kernel was mapped
abbrev pub FourCallsCompose : Type 0
FourCallsCompose =
    (source given kernel arch bits input out : Name) (s : Request) (n : ℕ) (first second third fourth last : Moment) → n ≤ most_turns →
    AreFourCalls source given kernel arch bits input out s n first second third fourth last → StillDoesTheLoop source input out n first fourth last
