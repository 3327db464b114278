-- What `turns` answers for a kernel alone.
use Rattle.std.proofs.Common.{◌≡◌, ℕ, [], Ok, refl, sym, ◌∙◌, ap, subst}
use Rattle.cg_model.specs.Kernel.{Kernel}
use Rattle.cg_files.specs.Held.{Holds, Appends}
use Rattle.cg_effects.specs.declared.outcome.Status.TheVariants.{Done}
use Rattle.cg_effects.specs.Outcome.{Name, File, Outcome}
use Rattle.cg_effects.specs.Ends.{Moment, Completed}
use Rattle.cg_kernel.specs.Answer.{answer_of}
use Rattle.cg_inputs.specs.Readings.{ReadsKernel}
use Rattle.cg_inputs.proofs.Sound.{IsSound, plain}
use Rattle.cg_inputs.proofs.Answered.{sound_answer, quiet_answer, same_answer, done_answer, some_answer, left_answer, not_done}
use Rattle.cg_inputs.proofs.Both.{only}
use Rattle.cg_inputs.proofs.Readings.{kernel_reading}
use Rattle.cg_inputs.proofs.Wholes.{whole}
use Rattle.cg_command_run.specs.Turns.{IsTurned, IsTurning, IsTurns, turned}

module _ (n : ℕ) (file : File) where
  pub same_turns : (a b : Outcome) → IsTurns n file a → IsTurns n file b → a.status ≡ b.status
  same_turns a b p q = same_answer (ReadsKernel file) (IsTurning n) (kernel_reading file) (λ K a b x y. ap (λ z. z.status) (x ∙ sym y)) a b p q

  pub sound_turns : (o : Outcome) → IsTurns n file o → IsSound plain o
  sound_turns o p = sound_answer (ReadsKernel file) (IsTurning n) (kernel_reading file) plain refl (λ K o e. subst (IsSound plain) (sym e) (record { own = refl; quiet = λ h. refl })) o p

  pub quiet_turns : (o : Outcome) → IsTurns n file o → o.writes ≡ []
  quiet_turns o p = quiet_answer (ReadsKernel file) (IsTurning n) (kernel_reading file) (λ K o e. ap (λ x. x.writes) e) o p

  pub accepted_turns : (K : Kernel) (o : Outcome) → answer_of file.bytes ≡ Ok K → IsTurns n file o → o.status ≡ Done
  accepted_turns K o e p = ap (λ x. x.status) (done_answer (ReadsKernel file) (IsTurning n) (kernel_reading file) K (only (ReadsKernel file) (kernel_reading file) K e) o p)

  pub some_turns : (o : Outcome) × IsTurns n file o
  some_turns = some_answer (ReadsKernel file) (IsTurning n) (kernel_reading file) (λ K is. (turned n K, refl))

pub turned_left : (n : ℕ) (file : Name) (f : File) (o : Outcome) (before after : Moment) → Holds before.held file f.bytes → IsTurns n f o → o.status ≡ Done → Completed o before after Done → IsTurned n file before after
turned_left n file f o before after held p done c =
    left_answer (ReadsKernel f) (IsTurning n) (kernel_reading f) (IsTurned n file before after) o
    (λ K is e. record {
      bytes = f.bytes;
      held = held;
      kernel = K;
      spelled = is;
      put = subst (λ report. Appends before.taken report after.taken) (ap (λ x. x.report) e) (whole o.status o.report before after done c.put);
    })
    p (not_done o done)
