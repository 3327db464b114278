-- What `image` answers.
use Rattle.std.proofs.Common.{◌≡◌, [], ◌∷◌, Result, Ok, Err, refl, sym, ◌∙◌, ap, subst, inl, inr}
use Rattle.cg_model.specs.Work.{Image}
use Rattle.cg_files.specs.Held.{Holds, Appends}
use Rattle.cg_effects.specs.declared.outcome.Status.TheVariants.{Done}
use Rattle.cg_effects.specs.Outcome.{Name, File, Outcome}
use Rattle.cg_effects.specs.Ends.{Moment, Completed, Wrote}
use Rattle.cg_pad.specs.Bytes.{image_bytes}
use Rattle.cg_pad.proofs.Roundtrip.{written}
use Rattle.cg_image_text.specs.declared.fault.TextFault.{TextFault}
use Rattle.cg_image_text.specs.Sections as texts
use Rattle.cg_inputs.proofs.Sound.{IsSound, plain, IsNamed}
use Rattle.cg_inputs.proofs.Answered.{not_done}
use Rattle.cg_inputs.proofs.Wholes.{whole, one_write}
use Rattle.cg_command_files.specs.Image.{image_by, image_of, IsImageText, IsImaged}
use Rattle.cg_command_files.proofs.Stored.{is_image, is_storable}
use Rattle.cg_command_files.proofs.Spelled.{spelled_stored}

-- ---- status and writes

pub same_image : (file : File) (out : Name) (a b : Outcome) → a ≡ image_of file out → b ≡ image_of file out → a.status ≡ b.status
same_image file out a b p q = ap (λ o. o.status) (p ∙ sym q)

sound_by : (file : File) (out : Name) (r : Result Image TextFault) → IsSound plain (image_by file out r)
sound_by file out (Ok image) = record { own = refl; quiet = λ h. cc }
sound_by file out (Err f) = record { own = refl; quiet = λ h. refl }

pub sound_image : (file : File) (out : Name) (o : Outcome) → o ≡ image_of file out → IsSound plain o
sound_image file out o p = subst (IsSound plain) (sym p) (sound_by file out (texts.answer_of file.bytes))

named_by : (file : File) (out : Name) (r : Result Image TextFault) → IsNamed (out ∷ []) (image_by file out r)
named_by file out (Ok image) = inl refl
named_by file out (Err f) = inr refl

pub named_image : (file : File) (out : Name) (o : Outcome) → o ≡ image_of file out → IsNamed (out ∷ []) o
named_image file out o p = subst (IsNamed (out ∷ [])) (sym p) (named_by file out (texts.answer_of file.bytes))

pub accepted_image : (file : File) (out : Name) (o : Outcome) → IsImageText file → o ≡ image_of file out → o.status ≡ Done
accepted_image file out o a p = ap (λ x. x.status) p ∙ ap (λ r. (image_by file out r).status) a.1

-- ---- what is left

imaged_by : (file out : Name) (f : File) (r : Result Image TextFault) (o : Outcome) (before after : Moment) → Holds before.held file f.bytes → texts.answer_of f.bytes ≡ r → o ≡ image_by f out r → o.status ≡ Done
    → Completed o before after Done → IsImaged file out before after
imaged_by file out f (Ok image) o before after held spelled is done c =
    let stored = spelled_stored f.bytes image spelled in
    record {
      bytes = f.bytes;
      held = held;
      image = image;
      spelled = spelled;
      read_back = written image (is_image image stored) (is_storable image stored);
      written = one_write before.held after.held out (image_bytes image) (subst (λ fs. Wrote before.held fs after.held) (ap (λ x. x.writes) is) c.held);
      put = subst (λ report. Appends before.taken report after.taken) (ap (λ x. x.report) is) (whole o.status o.report before after done c.put);
    }
imaged_by file out f (Err e) o before after held spelled is done c = absurd (not_done o done (ap (λ x. x.status) is))

pub imaged_left : (file out : Name) (f : File) (o : Outcome) (before after : Moment) → Holds before.held file f.bytes → o ≡ image_of f out → o.status ≡ Done → Completed o before after Done → IsImaged file out before after
imaged_left file out f o before after held answer is c = imaged_by file out f (texts.answer_of f.bytes) o before after held refl answer is c
