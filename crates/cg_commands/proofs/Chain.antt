-- Commands one after the other do what the kernel does, and the loop that it came from.
use Rattle.std.proofs.Common.{◌≡◌, ℕ, ◌≤◌, Option, Some, Ok, sym, ◌∙◌, ap, subst, inl}
use Rattle.cg_model.specs.Work.{Image}
use Rattle.cg_model.specs.Array.{Arch}
use Rattle.cg_model.specs.Kernel.{Kernel, IsKernel}
use Rattle.cg_model.specs.Turns.{turns_left}
use Rattle.cg_model.specs.Order.{IsUnaliased}
use Rattle.cg_model.specs.Limits.{most_turns}
use Rattle.cg_model.specs.Mapping.{Mapping, IsLegal}
use Rattle.cg_model.specs.Config.{Config}
use Rattle.cg_model.specs.Configured.{configuration_of}
use Rattle.cg_model.specs.Machine.{machine_left}
use Rattle.cg_model.specs.declared.request.Request.{Request}
use Rattle.cg_files.specs.Held.{Held, Holds}
use Rattle.cg_effects.specs.Outcome.{Name, Bytes}
use Rattle.cg_effects.specs.Ends.{Moment}
use Rattle.cg_bits.specs.Spelling.{AreBits}
use Rattle.cg_kernel.specs.Answer as kernels
use Rattle.cg_kernel_text.specs.Printed.{kernel_text}
use Rattle.cg_pad.specs.Bytes as images
use Rattle.cg_loop_laws.specs.Translate.{loop_kernel_of}
use Rattle.cg_tiles.specs.Answer.{AreValidBytes}
use Rattle.cg_inputs.proofs.Arrays.{same_array}
use Rattle.cg_command_run.specs.Run.{LeavesTurns}
use Rattle.cg_commands.specs.Chain.{AreFourCalls, AreMappedAndRun, AreSimplifiedCalls, AreThreeCalls, DoesTheKernel, DoesTheLoop, StillDoesTheLoop}

-- what is held under a name
held_as : (held : Held) (files : Name → Option Bytes) (name : Name) (bytes : Bytes) → held ≡ Some files → Holds held name bytes → files name ≡ Some bytes
held_as held files name bytes is h = subst (λ z. Holds z name bytes) is h

one_file : (files : Name → Option Bytes) (name : Name) (a b : Bytes) → files name ≡ Some a → files name ≡ Some b → a ≡ b
one_file files name a b x y = let same : Some a ≡ Some b = sym x ∙ y in cc

one_kernel : (bytes text : Bytes) (K L : Kernel) → bytes ≡ text → kernels.answer_of bytes ≡ Ok K → kernels.answer_of text ≡ Ok L → K ≡ L
one_kernel bytes text K L e k l = let same : Ok K ≡ Ok L = sym k ∙ ap kernels.answer_of e ∙ l in cc

-- the array under the bits of a mapping that was found leaves what the turns leave, though architecture, kernel and bits
-- were read again
leaves : (A B : Arch) (K L : Kernel) (M : Mapping) (n : ℕ) (image : Image) (C : Config) (written read : Bytes) → A ≡ B → K ≡ L → written ≡ read
    → IsKernel L → IsUnaliased L n image → IsLegal A K M → AreBits A (configuration_of A K M) written → LeavesTurns B n image C read
    → machine_left B C n image ≡ turns_left L n image
leaves A B K L M n image C written read a k e valid free legal bits turns =
    let legal' : IsLegal B L M = subst (λ Z. IsLegal Z L M) a (subst (λ Z. IsLegal A Z M) k legal) in
    let bits' : AreBits B (configuration_of B L M) read =
    subst (λ z. AreBits B (configuration_of B L M) z) e (subst (λ Z. AreBits Z (configuration_of Z L M) written) a (subst (λ Z. AreBits A (configuration_of A Z M) written) k bits)) in
    turns L M valid legal' bits' (inl free)

-- a kernel that was written is mapped, and the array under the bits leaves what the kernel's turns leave
module _ (kernel arch bits input out : Name) (s : Request) (n : ℕ) (first second last : Moment) (c : AreMappedAndRun kernel arch bits input out s n first second last)
    (L : Kernel) (valid : IsKernel L) (read_back : kernels.answer_of (kernel_text L) ≡ Ok L) (written : Holds first.held kernel (kernel_text L)) where
  pub array_leaves : IsUnaliased L n c.ran.read.image → machine_left c.ran.read.array c.ran.read.config n c.ran.read.image ≡ turns_left L n c.ran.read.image
  array_leaves free =
      let searched = c.searched in
      let ran = c.ran in
      let text = one_file c.files kernel searched.read.kernel_bytes (kernel_text L)
      (held_as first.held c.files kernel searched.read.kernel_bytes c.files_are searched.read.kernel_held)
      (held_as first.held c.files kernel (kernel_text L) c.files_are written) in
      let same_kernel : searched.pair.kernel ≡ L =
      one_kernel searched.read.kernel_bytes (kernel_text L) searched.pair.kernel L text searched.read.given.kernel_is read_back in
      let arch_file = one_file c.files arch searched.read.arch_bytes ran.read.arch_bytes
      (held_as first.held c.files arch searched.read.arch_bytes c.files_are searched.read.arch_held)
      (sym c.arch_kept ∙ held_as second.held c.later_files arch ran.read.arch_bytes c.later_files_are ran.read.arch_held) in
      let same_arch : searched.pair.arch ≡ ran.read.array =
      same_array ran.read.arch_bytes searched.pair.arch ran.read.array (subst (λ z. AreValidBytes z searched.pair.arch) arch_file searched.read.given.arch_is) ran.read.given in
      let same_bits : searched.bytes ≡ ran.read.bytes = one_file c.later_files bits searched.bytes ran.read.bytes
      (held_as second.held c.later_files bits searched.bytes c.later_files_are searched.written)
      (held_as second.held c.later_files bits ran.read.bytes c.later_files_are ran.read.held) in
      leaves searched.pair.arch ran.read.array searched.pair.kernel L searched.mapping n ran.read.image ran.read.config searched.bytes ran.read.bytes
      same_arch same_kernel same_bits valid free searched.runs.legal searched.runs.spelled ran.turns

  -- the image of a kernel whose turns leave the same is held
  pub image_held : (K : Kernel) → IsUnaliased L n c.ran.read.image → (turns_left L n c.ran.read.image).image ≡ (turns_left K n c.ran.read.image).image
      → Holds last.held out (images.image_bytes (turns_left K n c.ran.read.image).image)
  image_held K free same = subst (λ z. Holds last.held out (images.image_bytes z)) (ap (λ z. z.image) (array_leaves free) ∙ same) c.ran.written

pub compose : (source kernel arch bits input out : Name) (s : Request) (n : ℕ) (first second third last : Moment)
    → AreThreeCalls source kernel arch bits input out s n first second third last → DoesTheLoop source input out n first third last
compose source kernel arch bits input out s n first second third last c =
    let looped = c.looped in
    let ran = c.mapped.ran in
    record {
      bytes = looped.bytes;
      held = looped.held;
      body = looped.body;
      spelled = looped.spelled;
      image_bytes = ran.read.image_bytes;
      image_held = ran.read.image_held;
      image = ran.read.image;
      image_is = ran.read.image_is;
      written =
          image_held kernel arch bits input out s n second third last c.mapped looped.kernel looped.valid looped.read_back looped.written (loop_kernel_of looped.body)
          (looped.free n ran.read.image) (ap (λ K. (turns_left K n ran.read.image).image) looped.is);
      same = λ room. looped.same n ran.read.image room;
    }

pub compose_simplified : (given kernel arch bits input out : Name) (s : Request) (n : ℕ) (first second third last : Moment) → n ≤ most_turns
    → AreSimplifiedCalls given kernel arch bits input out s n first second third last → DoesTheKernel given input out n first third last
compose_simplified given kernel arch bits input out s n first second third last few c =
    let simple = c.simplified in
    let ran = c.mapped.ran in
    record {
      bytes = simple.bytes;
      held = simple.held;
      kernel = simple.given;
      spelled = simple.spelled;
      image_bytes = ran.read.image_bytes;
      image_held = ran.read.image_held;
      image = ran.read.image;
      image_is = ran.read.image_is;
      written = λ words free.
          image_held kernel arch bits input out s n second third last c.mapped simple.kernel simple.valid simple.read_back simple.written simple.given
          (simple.simplified.unaliased n ran.read.image words few free) (simple.simplified.leaves n ran.read.image words).left;
    }

pub compose_four : (source given kernel arch bits input out : Name) (s : Request) (n : ℕ) (first second third fourth last : Moment) → n ≤ most_turns
    → AreFourCalls source given kernel arch bits input out s n first second third fourth last → StillDoesTheLoop source input out n first fourth last
compose_four source given kernel arch bits input out s n first second third fourth last few c =
    let looped = c.looped in
    let rest = compose_simplified given kernel arch bits input out s n second third fourth last few c.rest in
    let text = one_file c.files given rest.bytes (kernel_text looped.kernel)
    (held_as second.held c.files given rest.bytes c.files_are rest.held)
    (held_as second.held c.files given (kernel_text looped.kernel) c.files_are looped.written) in
    let same_kernel : rest.kernel ≡ looped.kernel = one_kernel rest.bytes (kernel_text looped.kernel) rest.kernel looped.kernel text rest.spelled looped.read_back in
    let is : rest.kernel ≡ loop_kernel_of looped.body = same_kernel ∙ looped.is in
    record {
      bytes = looped.bytes;
      held = looped.held;
      body = looped.body;
      spelled = looped.spelled;
      image_bytes = rest.image_bytes;
      image_held = rest.image_held;
      image = rest.image;
      image_is = rest.image_is;
      written = λ words.
          subst (λ (K : Kernel). Holds last.held out (images.image_bytes (turns_left K n rest.image).image)) is
          (rest.written words (subst (λ (K : Kernel). IsUnaliased K n rest.image) (sym same_kernel) (looped.free n rest.image)));
      same = λ room. looped.same n rest.image room;
    }
