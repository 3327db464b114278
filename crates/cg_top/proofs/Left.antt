-- What the command that was asked leaves.
use Rattle.std.proofs.Common.{◌≡◌, List, Some, refl, sym, ◌∙◌, ap, subst, inl, inr}
use Rattle.cg_files.specs.Causes.{Rose}
use Rattle.cg_effects.specs.declared.outcome.Status.{Status}
use Rattle.cg_effects.specs.declared.outcome.Status.TheVariants.{Memory, Malformed, ReadFault, WriteFault}
use Rattle.cg_effects.specs.Outcome.{Name, Outcome}
use Rattle.cg_effects.specs.Reads.{StopsAt}
use Rattle.cg_effects.specs.Ends.{Moment, Finished, Completed}
use Rattle.cg_command.specs.Command.{inputs_of}
use Rattle.cg_commands.specs.Commands.{Leaves}
use Rattle.cg_commands.proofs.Left as commands
use Rattle.cg_top.specs.TopCall.{IsPlannedBytes, Ends, IsLeft}

pub left : (words : List Name) (before after : Moment) (status : Status) → Ends words before after status → IsLeft words before after status
left words before after status (inr g) plan p = subst (λ s. Leaves plan s before after) (sym g.status_is) (commands.silent plan Memory before after refl)
left words before after status (inl e) plan p = by_way e.finished
  where
    at : (s : Status) → status ≡ s → commands.is_silent s ≡ commands.is_silent Memory → Leaves plan status before after
    at s is quiet = subst (λ z. Leaves plan z before after) (sym is) (commands.silent plan s before after quiet)

    by_cause : (o : Outcome) (names : List Name) → StopsAt before.held (Rose before.read_faults after.read_faults) names o → status ≡ o.status → Leaves plan status before after
    by_cause o names s is = elim s.cause [
      | inl c ↦ at ReadFault (is ∙ ap (λ x. x.status) c.0) refl
      | inr c ↦ at Malformed (is ∙ ap (λ x. x.status) c.0) refl
    ]

    by_origin : IsPlannedBytes before.held (Rose before.read_faults after.read_faults) (Some plan) e.outcome → Completed e.outcome before after status → Leaves plan status before after
    by_origin (inl a) c =
        subst (λ p. Leaves p status before after) a.answers.named (commands.left e.outcome before after a.answers.command status a.answers.read a.bytes a.answers.answer (sym c.status_is) c)
    by_origin (inr s) c = by_cause e.outcome (inputs_of plan) s c.status_is

    by_way : Finished e.outcome before after status → Leaves plan status before after
    by_way (inl c) = by_origin (rw p at e.planned) c
    by_way (inr (inl y)) = at WriteFault y.status_is refl
    by_way (inr (inr (inl y))) = at WriteFault y.status_is refl
    by_way (inr (inr (inr y))) = at Memory y.status_is refl
