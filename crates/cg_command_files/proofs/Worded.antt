-- What `words` answers.
use Rattle.std.proofs.Common.{◌≡◌, [], Result, Ok, Err, refl, sym, ◌∙◌, ap, subst}
use Rattle.std.specs.Prelude.{slice_index_or}
use Rattle.cg_model.specs.Work.{Image}
use Rattle.cg_files.specs.Held.{Holds, Appends}
use Rattle.cg_effects.specs.declared.outcome.Status.TheVariants.{Done}
use Rattle.cg_effects.specs.Outcome.{Name, File, Outcome}
use Rattle.cg_effects.specs.Reads.{HoldsBytes}
use Rattle.cg_effects.specs.Ends.{Moment, Completed}
use Rattle.cg_pad.specs.declared.fault.ImageFault.{ImageFault}
use Rattle.cg_pad.specs.Bytes.{answer_of}
use Rattle.cg_image_text.proofs.Streamed.{reads_back}
use Rattle.cg_inputs.proofs.Sound.{IsSound, plain}
use Rattle.cg_inputs.proofs.Answered.{not_done}
use Rattle.cg_inputs.proofs.Wholes.{whole}
use Rattle.cg_command_files.specs.Words.{words_by, words_of, IsImageFile, IsWorded}
use Rattle.cg_command_files.proofs.Stored.{is_storable, stream_at, word_anywhere}
use Rattle.cg_command_files.proofs.ImageGiven.{given_stored}

-- ---- status and writes

pub same_words : (file : File) (a b : Outcome) → a ≡ words_of file → b ≡ words_of file → a.status ≡ b.status
same_words file a b p q = ap (λ o. o.status) (p ∙ sym q)

sound_by : (file : File) (r : Result Image ImageFault) → IsSound plain (words_by file r)
sound_by file (Ok image) = record { own = refl; quiet = λ h. refl }
sound_by file (Err f) = record { own = refl; quiet = λ h. refl }

pub sound_words : (file : File) (o : Outcome) → o ≡ words_of file → IsSound plain o
sound_words file o p = subst (IsSound plain) (sym p) (sound_by file (answer_of file.bytes))

quiet_by : (file : File) (r : Result Image ImageFault) → (words_by file r).writes ≡ []
quiet_by file (Ok image) = refl
quiet_by file (Err f) = refl

pub quiet_words : (file : File) (o : Outcome) → o ≡ words_of file → o.writes ≡ []
quiet_words file o p = ap (λ x. x.writes) p ∙ quiet_by file (answer_of file.bytes)

pub accepted_words : (file : File) (o : Outcome) → IsImageFile file → o ≡ words_of file → o.status ≡ Done
accepted_words file o a p = ap (λ x. x.status) p ∙ ap (λ r. (words_by file r).status) a.1

-- ---- what is left

worded_by : (file : Name) (f : File) (r : Result Image ImageFault) (o : Outcome) (before after : Moment) → Holds before.held file f.bytes → HoldsBytes f → answer_of f.bytes ≡ r → o ≡ words_by f r → o.status ≡ Done
    → Completed o before after Done → IsWorded file before after
worded_by file f (Ok image) o before after held bytes spelled is done c =
    let stored = given_stored f.bytes image bytes spelled in
    record {
      bytes = f.bytes;
      held = held;
      image = image;
      spelled = spelled;
      read_back = reads_back image (is_storable image stored) stored.sixteen (word_anywhere image.memory stored.memory) (λ port. word_anywhere (slice_index_or image.streams port []) (stream_at image.streams stored.streams port).0);
      put = subst (λ report. Appends before.taken report after.taken) (ap (λ x. x.report) is) (whole o.status o.report before after done c.put);
    }
worded_by file f (Err e) o before after held bytes spelled is done c = absurd (not_done o done (ap (λ x. x.status) is))

pub worded_left : (file : Name) (f : File) (o : Outcome) (before after : Moment) → Holds before.held file f.bytes → HoldsBytes f → o ≡ words_of f → o.status ≡ Done → Completed o before after Done → IsWorded file before after
worded_left file f o before after held bytes answer is c = worded_by file f (answer_of f.bytes) o before after held bytes refl answer is c
