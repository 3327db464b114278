-- What `flat` answers.
use Rattle.std.proofs.Common.{◌≡◌, [], ◌∷◌, refl, sym, ◌∙◌, ap, subst, inl}
use Rattle.cg_model.specs.Array.{Arch}
use Rattle.cg_flat.specs.Text.{text_of}
use Rattle.cg_files.specs.Held.{Holds, Appends}
use Rattle.cg_effects.specs.declared.outcome.Status.TheVariants.{Done}
use Rattle.cg_effects.specs.Outcome.{Name, File, Outcome, names_of}
use Rattle.cg_effects.specs.Ends.{Moment, Completed, Wrote}
use Rattle.cg_tiles.specs.Answer.{AreValidBytes}
use Rattle.cg_inputs.specs.Readings.{ReadsArch}
use Rattle.cg_inputs.proofs.Sound.{IsSound, plain, IsNamed}
use Rattle.cg_inputs.proofs.Answered.{sound_answer, named_answer, same_answer, done_answer, some_answer, left_answer, not_done}
use Rattle.cg_inputs.proofs.Both.{only}
use Rattle.cg_inputs.proofs.Readings.{arch_reading}
use Rattle.cg_inputs.proofs.Wholes.{whole, one_write}
use Rattle.cg_command_run.specs.Flat.{IsFlat, IsFlattened, IsFlattening, flattened}

module _ (file : File) (out : Name) where
  pub same_flat : (a b : Outcome) → IsFlat file out a → IsFlat file out b → a.status ≡ b.status
  same_flat a b p q = same_answer (ReadsArch file) (IsFlattening out) (arch_reading file) (λ A a b x y. ap (λ z. z.status) (x ∙ sym y)) a b p q

  pub sound_flat : (o : Outcome) → IsFlat file out o → IsSound plain o
  sound_flat o p = sound_answer (ReadsArch file) (IsFlattening out) (arch_reading file) plain refl (λ A o e. subst (IsSound plain) (sym e) (record { own = refl; quiet = λ h. cc })) o p

  pub named_flat : (o : Outcome) → IsFlat file out o → IsNamed (out ∷ []) o
  named_flat o p = named_answer (ReadsArch file) (IsFlattening out) (arch_reading file) (out ∷ []) (λ A o e. inl (ap (λ x. names_of x.writes) e)) o p

  pub accepted_flat : (A : Arch) (o : Outcome) → AreValidBytes file.bytes A → IsFlat file out o → o.status ≡ Done
  accepted_flat A o a p = ap (λ x. x.status) (done_answer (ReadsArch file) (IsFlattening out) (arch_reading file) A (only (ReadsArch file) (arch_reading file) A a) o p)

  pub some_flat : (o : Outcome) × IsFlat file out o
  some_flat = some_answer (ReadsArch file) (IsFlattening out) (arch_reading file) (λ A is. (flattened A out, refl))

pub flattened_left : (file out : Name) (f : File) (o : Outcome) (before after : Moment) → Holds before.held file f.bytes → IsFlat f out o → o.status ≡ Done → Completed o before after Done → IsFlattened file out before after
flattened_left file out f o before after held p done c =
    left_answer (ReadsArch f) (IsFlattening out) (arch_reading f) (IsFlattened file out before after) o
    (λ A is e. record {
      bytes = f.bytes;
      held = held;
      arch = A;
      given = is;
      written = one_write before.held after.held out (text_of A) (subst (λ fs. Wrote before.held fs after.held) (ap (λ x. x.writes) e) c.held);
      put = subst (λ report. Appends before.taken report after.taken) (ap (λ x. x.report) e) (whole o.status o.report before after done c.put);
    })
    p (not_done o done)
