-- The mapping of each seed is legal, it has bits, and the array that runs them leaves what the turns leave.
use Rattle.std.proofs.Common.{◌≡◌, ℕ, ◌≤◌, List, length, ap, refl, sym, ◌∙◌, subst, arith}
use Rattle.std.proofs.lemmas.List.FromFn.{length-range_with_len}
use Rattle.cg_model.specs.Array.{Arch, IsArch}
use Rattle.cg_model.specs.Kernel.{Kernel}
use Rattle.cg_model.specs.Mapping.{IsLegal}
use Rattle.cg_model.specs.Work.{Image}
use Rattle.cg_model.specs.Turns.{turns_left}
use Rattle.cg_model.specs.Configured.{configuration_of}
use Rattle.cg_model.specs.Machine.{machine_left}
use Rattle.cg_effects.specs.Outcome.{Bytes}
use Rattle.cg_overlap.proofs.Canonical.{canonical}
use Rattle.cg_overlap.proofs.Overlap.{leaves_the_same}
use Rattle.cg_bits.specs.Spelling.{AreBits}
use Rattle.cg_bits.proofs.Packed.{some_bits}
use Rattle.cg_check.specs.Legal.{Mapped}
use Rattle.cg_hub.specs.Hub.{hub_map}
use Rattle.cg_hub.proofs.Legal.{hub_legal}
use Rattle.cg_inputs.proofs.Arrays.{valid_parts}
use Rattle.cg_trial.specs.Drawn.{trial_kernel}
use Rattle.cg_trial.specs.Trial.{parts_with, trial_arch, trial_image}
use Rattle.cg_trial.proofs.Faultless.{no_early, no_late, no_loop}
use Rattle.cg_trial.proofs.Sound.{trial_sound, trial_unaliased}
use Rattle.cg_trial.proofs.Built.{trial_arch_is, trial_enough}
use Rattle.cg_command_run.specs.Report.{IsReport, IsTrial, image_digest, report_of, trial_config, trial_turns}
use Rattle.cg_command_run.specs.Laws.{LeavesSame}

pub valid_arch : IsArch trial_arch
unfolding trial_arch
valid_arch = valid_parts (parts_with 96) (record { early = no_early 96 refl; no_loop = no_loop 96 refl; late = no_late 96 refl; is = refl })

pub legal : (seed : ℕ) → IsLegal trial_arch (trial_kernel seed) (hub_map trial_arch (trial_kernel seed) 64)
legal seed = hub_legal trial_arch (trial_kernel seed) 64 valid_arch (trial_sound seed) (trial_enough seed)

pub same_image : (seed : ℕ) → LeavesSame seed
same_image seed = record {
  image =
      ap (λ x. x.image)
      (leaves_the_same trial_arch (trial_kernel seed) (hub_map trial_arch (trial_kernel seed) 64) trial_turns trial_image valid_arch (trial_sound seed) (legal seed) (trial_unaliased seed trial_turns trial_image)).all;
}

pub some_trial_bits : (seed : ℕ) → (bits : List ℕ) × AreBits trial_arch (trial_config seed) bits
some_trial_bits seed =
    some_bits trial_arch (trial_config seed) (canonical trial_arch (trial_kernel seed) (hub_map trial_arch (trial_kernel seed) 64) (trial_sound seed) (legal seed) (legal seed).shape.places)

-- ---- sizes

words_are : length trial_image.memory ≡ 256
words_are = length-range_with_len 0 256

memory_is : trial_arch.memory ≡ 256
memory_is = ap (λ (A : Arch). A.memory) trial_arch_is

fits : length trial_image.memory ≤ trial_arch.memory
fits = let words = words_are in let memory = memory_is in omega (arith, words, memory)

-- the image fits the memory
pub fits_of : (A : Arch) (image : Image) → A ≡ trial_arch → image ≡ trial_image → length image.memory ≤ A.memory
fits_of A image a i = subst (λ (B : Arch). length image.memory ≤ B.memory) (sym a) (subst (λ (j : Image). length j.memory ≤ trial_arch.memory) (sym i) fits)

-- ---- reports

-- a report is made of its parts
pub report_made : (seed : ℕ) (m : Mapped) (image : Image) (count : ℕ) (run turns text bits : Bytes) → text ≡ report_of seed m count run turns → AreBits m.arch (configuration_of m.arch m.kernel m.mapping) bits
    → count ≡ length bits
    → run ≡ image_digest (machine_left m.arch (configuration_of m.arch m.kernel m.mapping) trial_turns image).image
    → turns ≡ image_digest (turns_left m.kernel trial_turns image).image → IsReport seed m image text
report_made seed m image count run turns text bits is spelled c r t = record {
  bits = bits;
  spelled = spelled;
  report_is =
      is
      ∙ ap (λ n. report_of seed m n run turns) c
      ∙ ap (λ x. report_of seed m (length bits) x turns) r
      ∙ ap (λ x. report_of seed m (length bits) (image_digest (machine_left m.arch (configuration_of m.arch m.kernel m.mapping) trial_turns image).image) x) t;
}

abbrev hub_mapped : Arch → Kernel → Mapped
hub_mapped A K = record { arch = A; kernel = K; mapping = hub_map A K 64 }

-- a report on the hub's mapping of a seed's parts is that of its trial
pub trial_of : (seed : ℕ) (A : Arch) (K : Kernel) (image : Image) (m : Mapped) (text : Bytes) → A ≡ trial_arch → K ≡ trial_kernel seed → image ≡ trial_image
    → m ≡ record { arch = A; kernel = K; mapping = hub_map A K 64 } → IsReport seed m image text → IsTrial seed text
trial_of seed A K image m text a k i is r =
    let on_arch = ap (λ (B : Arch). hub_mapped B K) a in
    let on_kernel = ap (λ (L : Kernel). hub_mapped trial_arch L) k in
    subst (λ (x : Mapped). IsReport seed x trial_image text) (is ∙ on_arch ∙ on_kernel) (subst (λ (j : Image). IsReport seed m j text) i r)
