-- The outcome of turns that were run on an image.
use Rattle.std.proofs.Common.{◌≡◌, ℕ, List, [], ◌∷◌, Option, ap, ◌∙◌}
use Rattle.cg_model.specs.Kernel.{Kernel}
use Rattle.cg_model.specs.Work.{Image, Left}
use Rattle.cg_model.specs.Turns.{turns_left}
use Rattle.cg_effects.specs.declared.outcome.Status.{Status}
use Rattle.cg_effects.specs.Outcome.{Name, Bytes, File, Outcome}
use Rattle.cg_pad.specs.Bytes as images
use Rattle.cg_turns.specs.declared.pair.UnorderedPair.{UnorderedPair}
use Rattle.cg_turns.specs.Pairs.{IsPairOf}
use Rattle.cg_command_run.specs.TurnsOnImage.{IsImaged, image_report, pair_status}

-- the one file that is written
abbrev pub file_with : Name → Bytes → List File
file_with name bytes = record { name = name; bytes = bytes } ∷ []

-- the outcome of these three
abbrev made_of : Status → Bytes → List File → Outcome
made_of status report writes = record { status = status; report = report; writes = writes }

pub imaged_by : (K : Kernel) (n : ℕ) (image : Image) (out : Name) (left : Left) (pair : Option UnorderedPair) (o : Outcome) → left ≡ turns_left K n image → IsPairOf K n image pair
    → o.status ≡ pair_status pair → o.report ≡ image_report K left.outside pair → o.writes ≡ file_with out (images.image_bytes left.image) → IsImaged n K image out o
imaged_by K n image out left pair o l p s r w = record {
  pair = pair;
  first = p;
  outcome = ap (λ z. made_of z o.report o.writes) s
      ∙ ap (λ z. made_of (pair_status pair) z o.writes) (r ∙ ap (λ x. image_report K x.outside pair) l)
      ∙ ap (λ z. made_of (pair_status pair) (image_report K (turns_left K n image).outside pair) z) (w ∙ ap (λ x. file_with out (images.image_bytes x.image)) l);
}
