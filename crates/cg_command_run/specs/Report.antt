-- What a trial reports: the numbers of its mapping, and the digests of the images that its two runs leave.
use Rattle.std.specs.Prelude.{◌≡◌, ℕ, ◌∷◌, ◌++◌, [], length, codes, decimal}
use Rattle.hex.specs.Hex.{encode_lower}
use Rattle.sha2.specs.Sha256.{sha256}
use Rattle.cg_model.specs.Kernel.{size}
use Rattle.cg_model.specs.Work.{Image}
use Rattle.cg_model.specs.Turns.{turns_left}
use Rattle.cg_model.specs.Config.{Config}
use Rattle.cg_model.specs.Configured.{configuration_of}
use Rattle.cg_model.specs.Machine.{machine_left}
use Rattle.cg_effects.specs.Outcome.{Bytes, line_of, line_then}
use Rattle.cg_pad.specs.Bytes.{image_bytes}
use Rattle.cg_bits.specs.Spelling.{AreBits}
use Rattle.cg_check.specs.Legal.{Mapped}
use Rattle.cg_hub.specs.Hub.{hub_map}
use Rattle.cg_trial.specs.Drawn.{trial_kernel}
use Rattle.cg_trial.specs.Trial.{trial_arch, trial_image}

-- the mapping of a seed's kernel over the hub, at an interval of 64 cycles
abbrev pub trial_mapped : ℕ → Mapped
trial_mapped seed = record { arch = trial_arch; kernel = trial_kernel seed; mapping = hub_map trial_arch (trial_kernel seed) 64 }

-- its configuration
abbrev pub trial_config : ℕ → Config
trial_config seed = configuration_of trial_arch (trial_kernel seed) (hub_map trial_arch (trial_kernel seed) 64)

-- the number of iterations of each of the two runs
abbrev pub trial_turns : ℕ
trial_turns = 1000

-- the image that the array under the configuration leaves
abbrev pub run_image : ℕ → Image
run_image seed = (machine_left trial_arch (trial_config seed) trial_turns trial_image).image

-- the image that the iterations of the kernel leave, one after the other
abbrev pub turns_image : ℕ → Image
turns_image seed = (turns_left (trial_kernel seed) trial_turns trial_image).image

-- the SHA-256 of an image's file, in hexadecimal digits
unfoldable pub image_digest : Image → Bytes
image_digest image = encode_lower (sha256 (image_bytes image))

-- the lines on a mapping
abbrev pub mapping_lines : ℕ → Mapped → Bytes
mapping_lines seed m =
    line_then (codes "trial " ∷ decimal seed ∷ [])
    (line_then (codes "nodes " ∷ decimal (size m.kernel) ∷ [])
    (line_then (codes "ii " ∷ decimal m.mapping.ii ∷ [])
    (line_of (codes "stages " ∷ decimal (configuration_of m.arch m.kernel m.mapping).stages ∷ []))))

-- the lines on the number of bytes of the bits, and on two digests
abbrev pub run_lines : ℕ → Bytes → Bytes → Bytes
run_lines bits run turns =
    line_then (codes "bits " ∷ decimal bits ∷ [])
    (line_then (codes "turns " ∷ decimal trial_turns ∷ [])
    (line_then (codes "run-image " ∷ run ∷ [])
    (line_of (codes "turns-image " ∷ turns ∷ []))))

-- the report
unfoldable pub report_of : ℕ → Mapped → ℕ → Bytes → Bytes → Bytes
report_of seed m bits run turns = mapping_lines seed m ++ run_lines bits run turns

-- the report of a seed's trial, where these bytes are the bits
abbrev pub trial_report : ℕ → Bytes → Bytes
trial_report seed bits = report_of seed (trial_mapped seed) (length bits) (image_digest (run_image seed)) (image_digest (turns_image seed))

-- a report on a mapping, bits that encode its configuration, and the images that the array and the iterations leave
-- from an image
pub record IsReport (seed : ℕ) (m : Mapped) (image : Image) (report : Bytes) : Type 0 where
  pub bits : Bytes
  pub spelled : AreBits m.arch (configuration_of m.arch m.kernel m.mapping) bits
  pub report_is :
      report
      ≡ report_of seed m (length bits) (image_digest (machine_left m.arch (configuration_of m.arch m.kernel m.mapping) trial_turns image).image)
      (image_digest (turns_left m.kernel trial_turns image).image)

-- the report of a seed's trial
abbrev pub IsTrial : ℕ → Bytes → Type 0
IsTrial seed report = IsReport seed (trial_mapped seed) trial_image report
