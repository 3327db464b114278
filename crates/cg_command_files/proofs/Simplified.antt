-- What `simplify` answers.
use Rattle.std.proofs.Common.{◌≡◌, List, [], ◌∷◌, Ok, refl, sym, ap, ◌∙◌, subst, inl}
use Rattle.cg_model.specs.Kernel.{Kernel}
use Rattle.cg_files.specs.Held.{Holds, Appends}
use Rattle.cg_effects.specs.declared.outcome.Status.TheVariants.{Done}
use Rattle.cg_effects.specs.Outcome.{Name, File, Outcome}
use Rattle.cg_effects.specs.Ends.{Moment, Completed, Wrote}
use Rattle.cg_kernel.specs.Answer.{answer_of}
use Rattle.cg_kernel.proofs.Spelled.{spelled_valid}
use Rattle.cg_kernel_text.specs.Printed.{kernel_text}
use Rattle.cg_kernel_text.proofs.Plain.{answer-kernel_text}
use Rattle.cg_simplify.proofs.Simplified.{simplified_itself}
use Rattle.cg_inputs.specs.Readings.{ReadsKernel}
use Rattle.cg_inputs.proofs.Sound.{IsSound, plain, IsNamed}
use Rattle.cg_inputs.proofs.Answered.{sound_answer, named_answer, same_answer, done_answer, some_answer, left_answer, not_done}
use Rattle.cg_inputs.proofs.Both.{only}
use Rattle.cg_inputs.proofs.Readings.{kernel_reading}
use Rattle.cg_inputs.proofs.Wholes.{whole, one_write}
use Rattle.cg_command_files.specs.Simplify.{IsSimplifyOf, IsSimplifiedRun, SimplifyOf, simplified_to}

-- ---- status and writes

module _ (file : File) (out : Name) where
  same_status : (K : Kernel) (a b : Outcome) → SimplifyOf out K a → SimplifyOf out K b → a.status ≡ b.status
  same_status K a b x y = ap (λ z. z.status) x.is ∙ sym (ap (λ z. z.status) y.is)

  pub same_simplify : (a b : Outcome) → IsSimplifyOf file out a → IsSimplifyOf file out b → a.status ≡ b.status
  same_simplify a b p q = same_answer (ReadsKernel file) (SimplifyOf out) (kernel_reading file) same_status a b p q

  pub sound_simplify : (o : Outcome) → IsSimplifyOf file out o → IsSound plain o
  sound_simplify o p =
      sound_answer (ReadsKernel file) (SimplifyOf out) (kernel_reading file) plain refl
      (λ K o x. subst (IsSound plain) (sym x.is) (record { own = refl; quiet = λ h. cc })) o p

  pub named_simplify : (o : Outcome) → IsSimplifyOf file out o → IsNamed (out ∷ []) o
  named_simplify o p =
      named_answer (ReadsKernel file) (SimplifyOf out) (kernel_reading file) (out ∷ [])
      (λ K o x. subst (IsNamed (out ∷ [])) (sym x.is) (inl refl)) o p

  pub accepted_simplify : (K : Kernel) (o : Outcome) → answer_of file.bytes ≡ Ok K → IsSimplifyOf file out o → o.status ≡ Done
  accepted_simplify K o spelled p =
      let is = only (ReadsKernel file) (kernel_reading file) K spelled in
      let x : SimplifyOf out K o = done_answer (ReadsKernel file) (SimplifyOf out) (kernel_reading file) K is o p in
      ap (λ z. z.status) x.is

  -- a kernel may be written as it is
  pub some_simplify : (o : Outcome) × IsSimplifyOf file out o
  some_simplify =
      some_answer (ReadsKernel file) (SimplifyOf out) (kernel_reading file)
      (λ K spelled.
      let valid = spelled_valid file.bytes K spelled in
      (simplified_to K K out, record { kernel = K; valid = valid; simplified = simplified_itself K valid.wired; is = refl }))

-- ---- what is left

module _ (file out : Name) (f : File) (o : Outcome) (before after : Moment) (held : Holds before.held file f.bytes) (done : o.status ≡ Done) (c : Completed o before after Done) where
  simplified_run : (K : Kernel) → answer_of f.bytes ≡ Ok K → SimplifyOf out K o → IsSimplifiedRun file out before after
  simplified_run K spelled x =
      record {
        bytes = f.bytes;
        held = held;
        given = K;
        spelled = spelled;
        kernel = x.kernel;
        valid = x.valid;
        simplified = x.simplified;
        read_back = answer-kernel_text x.kernel x.valid;
        written = one_write before.held after.held out (kernel_text x.kernel) (subst (λ fs. Wrote before.held fs after.held) (ap (λ z. z.writes) x.is) c.held);
        put = subst (λ report. Appends before.taken report after.taken) (ap (λ z. z.report) x.is) (whole o.status o.report before after done c.put);
      }

  pub simplified_left : IsSimplifyOf f out o → IsSimplifiedRun file out before after
  simplified_left p =
      left_answer (ReadsKernel f) (SimplifyOf out) (kernel_reading f) (IsSimplifiedRun file out before after) o
      simplified_run p (not_done o done)
