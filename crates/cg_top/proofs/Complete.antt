-- Where everything fits and nothing fails, the command is done, or memory ran out; and where the interval is forbidden, it says so.
use Rattle.std.proofs.Common.{◌≡◌, List, [], ◌∷◌, ◌++◌, All, Option, Some, sym, ◌∙◌, subst, ◌⊎◌, inl, inr}
use Rattle.cg_files.specs.Causes.{Rose}
use Rattle.cg_effects.specs.declared.outcome.Status.{Status}
use Rattle.cg_effects.specs.declared.outcome.Status.TheVariants.{Done, Memory, Impossible}
use Rattle.cg_effects.specs.Outcome.{Name, Bytes, File, Outcome}
use Rattle.cg_effects.specs.Reads.{IsRead}
use Rattle.cg_effects.specs.Ends.{Moment, Finished}
use Rattle.cg_effects.proofs.Reading.{all, reading}
use Rattle.cg_command.specs.declared.command.Command.{Command}
use Rattle.cg_command.specs.Command.{inputs_of}
use Rattle.cg_command.specs.Files.{names_only}
use Rattle.cg_commands.specs.Commands.{IsAnswer}
use Rattle.cg_top.proofs.Contents.{same_contents}
use Rattle.cg_top.proofs.Planned.{is_outcome}
use Rattle.cg_top.specs.TopCall.{Ends, IsComplete, IsImpossible}
use Rattle.cg_commands.proofs.Commands.{accepted, forbidden}
use Rattle.cg_top.proofs.Exact.{IsOf, told, all_told}

-- over files that were read, what the told reading leads to is what the command answers
answers : (files : Name → Option Bytes) (c : Command File Name) (o : Outcome) → All (IsRead (Some files)) (inputs_of c) → IsOf files (names_only c) (reading files (inputs_of (names_only c))) o → IsAnswer c o
answers files c o each is =
    let z : IsOf files (names_only c) (all (inputs_of c)) o = subst (λ r. IsOf files (names_only c) r o) (all_told files c each) is in
    subst (λ d. IsAnswer d o) (same_contents files c each) z

pub complete : (words : List Name) (before after : Moment) (status : Status) → Ends words before after status → IsComplete words before after status
complete words before after status (inr g) files command held fits read accepts r w f = inr g.status_is
complete words before after status (inl e) files command held fits read accepts r w f = by_way e.finished
  where
    is_done : e.outcome.status ≡ Done
    is_done = elim (told files (Rose before.read_faults after.read_faults) (names_only command) e.outcome (rw (held, fits) at (is_outcome words before after status e))) [
      | inl x ↦ absurd (r x.0)
      | inr y ↦ accepted command e.outcome accepts (answers files command e.outcome read y)
    ]

    by_way : Finished e.outcome before after status → (status ≡ Done) ⊎ (status ≡ Memory)
    by_way (inl y) = inl (y.status_is ∙ is_done)
    by_way (inr (inl y)) = absurd (w y.cause)
    by_way (inr (inr (inl y))) = absurd (f y.cause)
    by_way (inr (inr (inr y))) = inr y.status_is

-- no list with something in it is empty
not_empty : (done rest : List File) (f : File) → [] ≡ done ++ f ∷ rest → ⊥
not_empty [] rest f e = cc
not_empty (d ∷ done) rest f e = cc

pub impossible : (words : List Name) (before after : Moment) (status : Status) → Ends words before after status → IsImpossible words before after status
impossible words before after status (inr g) files command held fits read forbids r = inr g.status_is
impossible words before after status (inl e) files command held fits read forbids r = by_way e.finished
  where
    says : (e.outcome.status ≡ Impossible) × (e.outcome.writes ≡ [])
    says = elim (told files (Rose before.read_faults after.read_faults) (names_only command) e.outcome (rw (held, fits) at (is_outcome words before after status e))) [
      | inl x ↦ absurd (r x.0)
      | inr y ↦ forbidden command e.outcome forbids (answers files command e.outcome read y)
    ]

    by_way : Finished e.outcome before after status → (status ≡ Impossible) ⊎ (status ≡ Memory)
    by_way (inl y) = inl (y.status_is ∙ says.0)
    by_way (inr (inl y)) = absurd (not_empty y.held.done y.held.rest y.held.failed (sym says.1 ∙ y.held.parts))
    by_way (inr (inr (inl y))) = absurd (let z : Done ≡ Impossible = sym y.was ∙ says.0 in cc)
    by_way (inr (inr (inr y))) = inr y.status_is
