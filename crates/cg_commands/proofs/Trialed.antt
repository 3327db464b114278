-- What `trial` answers, and what its bits do.
use Rattle.std.proofs.Common.{◌≡◌, ℕ, [], refl, sym, ◌∙◌, ap, subst}
use Rattle.cg_effects.specs.declared.outcome.Status.TheVariants.{Done}
use Rattle.cg_effects.specs.Outcome.{Outcome}
use Rattle.cg_effects.specs.Ends.{Moment, Completed}
use Rattle.cg_effects.specs.Refusals.{reports}
use Rattle.cg_files.specs.Held.{Appends}
use Rattle.cg_inputs.proofs.Sound.{IsSound, plain}
use Rattle.cg_inputs.proofs.Wholes.{whole}
use Rattle.cg_command_judge.proofs.Bitstream.{runs}
use Rattle.cg_trial.proofs.Sound.{trial_sound}
use Rattle.cg_command_run.specs.Report.{trial_mapped, trial_report}
use Rattle.cg_command_run.proofs.Trials.{valid_arch, legal, same_image, some_trial_bits}
use Rattle.cg_commands.specs.Trial.{IsTrialOf, IsTrialRun}

pub same_trial : (seed : ℕ) (a b : Outcome) → IsTrialOf seed a → IsTrialOf seed b → a.status ≡ b.status
same_trial seed a b p q = ap (λ x. x.status) p.outcome ∙ sym (ap (λ x. x.status) q.outcome)

pub sound_trial : (seed : ℕ) (o : Outcome) → IsTrialOf seed o → IsSound plain o
sound_trial seed o p = subst (IsSound plain) (sym p.outcome) (record { own = refl; quiet = λ h. refl })

pub accepted_trial : (seed : ℕ) (o : Outcome) → IsTrialOf seed o → o.status ≡ Done
accepted_trial seed o p = ap (λ x. x.status) p.outcome

pub quiet_trial : (seed : ℕ) (o : Outcome) → IsTrialOf seed o → o.writes ≡ []
quiet_trial seed o p = ap (λ x. x.writes) p.outcome

pub some_trial : (seed : ℕ) → (o : Outcome) × IsTrialOf seed o
some_trial seed =
    let bits = some_trial_bits seed in
    (reports Done (trial_report seed bits.0), record { report = trial_report seed bits.0; is_trial = record { bits = bits.0; spelled = bits.1; report_is = refl }; outcome = refl })

pub trial_left : (seed : ℕ) (o : Outcome) (before after : Moment) → IsTrialOf seed o → o.status ≡ Done → Completed o before after Done → IsTrialRun seed before after
trial_left seed o before after p done c =
    let is = p.is_trial in
    let report : o.report ≡ trial_report seed is.bits = ap (λ x. x.report) p.outcome ∙ is.report_is in
    record {
      bits = is.bits;
      runs = runs (trial_mapped seed) is.bits valid_arch (trial_sound seed) (legal seed) is.spelled;
      same = same_image seed;
      put = subst (λ r. Appends before.taken r after.taken) report (whole o.status o.report before after done c.put);
    }
