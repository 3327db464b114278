-- A call without output files leaves everything held as it was.
use Rattle.std.proofs.Common.{◌≡◌, ◌++◌, List, [], ◌∷◌, Option, Some, None, refl, sym, ◌∙◌, ap, subst, ◌⊎◌, inl, inr}
use Rattle.cg_files.specs.Causes.{Rose}
use Rattle.cg_files.specs.Held.{Held, IsMissing, IsLonger}
use Rattle.cg_effects.specs.declared.outcome.Status.{Status}
use Rattle.cg_effects.specs.Outcome.{Name, File, Outcome}
use Rattle.cg_effects.specs.Reads.{read_fault_of, too_long_of}
use Rattle.cg_effects.specs.Ends.{Moment, Finished, Wrote}
use Rattle.cg_command.specs.declared.command.Command.{Command}
use Rattle.cg_command.specs.Command.{outputs_of}
use Rattle.cg_command.proofs.Maps.{outputs_kept}
use Rattle.cg_command.specs.Words.{plan_of}
use Rattle.cg_top.proofs.Planned.{is_outcome}
use Rattle.cg_top.specs.TopCall.{IsPlanned, Ends, WritesNothing}
use Rattle.cg_commands.proofs.Commands.{quiet}

quiet_plan : (held : Held) (rose : Type 0) (plan : Option (Command Name Name)) (o : Outcome) → WritesNothing plan → IsPlanned held rose plan o → o.writes ≡ []
quiet_plan held rose None o w p = ap (λ x. x.writes) p
quiet_plan held rose (Some plan) o w (inl a) = quiet a.command o (sym (outputs_kept (λ (file : File). file.name) a.command) ∙ ap outputs_of a.named ∙ w) a.answer
quiet_plan held rose (Some plan) o w (inr s) = stopped s.cause
  where
    stopped : ((o ≡ read_fault_of s.name) × (rose ⊎ IsMissing held s.name)) ⊎ ((o ≡ too_long_of s.name) × IsLonger held s.name 16777216) → o.writes ≡ []
    stopped (inl p) = ap (λ x. x.writes) p.0
    stopped (inr p) = ap (λ x. x.writes) p.0

pub stays : (h : Held) → Wrote h [] h
stays (Some files) = λ q. refl
stays None = tt

pub no_part : (xs : List File) (x : File) (ys : List File) → [] ≡ xs ++ x ∷ ys → ⊥
no_part [] x ys e = cc
no_part (z ∷ zs) x ys e = cc

nothing : (xs ys : List File) → [] ≡ xs ++ ys → xs ≡ []
nothing [] ys e = refl
nothing (x ∷ xs) ys e = cc

pub kept : (words : List Name) (before after : Moment) (status : Status) → Ends words before after status → WritesNothing (plan_of words) → Wrote before.held [] after.held
kept words before after status (inr g) w = subst (λ h. Wrote before.held [] h) (sym g.held) (stays before.held)
kept words before after status (inl e) w = by_way e.finished
  where
    none : e.outcome.writes ≡ []
    none = quiet_plan before.held (Rose before.read_faults after.read_faults) (plan_of words) e.outcome w (is_outcome words before after status e)

    by_way : Finished e.outcome before after status → Wrote before.held [] after.held
    by_way (inl y) = subst (λ fs. Wrote before.held fs after.held) none y.held
    by_way (inr (inl y)) = absurd (no_part y.held.done y.held.failed y.held.rest (sym none ∙ y.held.parts))
    by_way (inr (inr (inl y))) = subst (λ fs. Wrote before.held fs after.held) none y.held
    by_way (inr (inr (inr y))) = subst (λ fs. Wrote before.held fs after.held) (nothing y.held.done y.held.rest (sym none ∙ y.held.parts)) y.held.wrote
