-- The calls of the store that are made.
use Rattle.std.proofs.Common.{◌≡◌, ◌≢◌, ℕ, zero, suc, true, List, [], ◌++◌, take, Option, Some, None, refl, sym, ◌∙◌, ap, subst, ◌⊎◌, inl, inr}
use Rattle.std.proofs.lemmas.List.{append-nil}
use Rattle.cg_files.specs.Asked.{Names, NotesAll, NotesPart}
use Rattle.cg_files.specs.Causes.{Rose}
use Rattle.cg_files.specs.Held.{Held, IsMissing, IsLonger}
use Rattle.cg_effects.specs.declared.outcome.Status.{Status}
use Rattle.cg_effects.specs.declared.outcome.Status.TheVariants.{Memory, WriteFault, No}
use Rattle.cg_effects.specs.Ends.{Moment, moment, Finished, Wrote, WrotePart, FailedAt, IsPut}
use Rattle.cg_effects.specs.Outcome.{Name, Bytes, File, Outcome, names_of}
use Rattle.cg_effects.specs.Reads.{read_fault_of, too_long_of}
use Rattle.cg_effects.specs.Status.{leaves_all}
use Rattle.cg_command.specs.declared.command.Command.{Command}
use Rattle.cg_command.specs.Command.{inputs_of, outputs_of}
use Rattle.cg_command.proofs.Maps.{outputs_kept}
use Rattle.cg_command.specs.Words.{plan_of}
use Rattle.cg_commands.proofs.Commands.{named}
use Rattle.cg_top.specs.TopCall.{IsPlanned, IsPlannedBytes, IsOutcome, Asks, Writes, MakesCalls, is_answer}
use Rattle.cg_top.proofs.Planned.{planned}
use Rattle.cg_top.proofs.Table.{Known, known}
use Rattle.cg_top.proofs.Effects.{unwritten}

-- no name is a first part of any
none_noted : (old : Names) (names : List Name) → NotesPart old names old
none_noted (Some old) names = (0, sym (append-nil old))
none_noted None names = tt

take_none : {A : Type 0} (n : ℕ) → take n (let xs : List A = [] in xs) ≡ []
take_none zero = refl
take_none (suc n) = refl

-- of no names none is noted
nothing : (old new : Names) → NotesPart old [] new → new ≡ old
nothing (Some old) (Some new) part = ap Some (part.1 ∙ ap (λ names. old ++ names) (take_none part.0) ∙ append-nil old)
nothing (Some old) None part = absurd part
nothing None (Some new) part = absurd part
nothing None None part = refl

-- where no call was made
pub none_asked : (plan : Option (Command Name Name)) (old : Names) → Asks plan old old
none_asked None old = refl
none_asked (Some plan) old = none_noted old (inputs_of plan)

pub none_written : (plan : Option (Command Name Name)) (old : Names) → Writes plan old old
none_written None old = refl
none_written (Some plan) old = none_noted old (outputs_of plan)

-- what an outcome's writes are for the words
pub written : (held : Held) (rose : Type 0) (plan : Option (Command Name Name)) (o : Outcome) (old new : Names) → IsPlanned held rose plan o → NotesPart old (names_of o.writes) new
    → Writes plan old new
written held rose None o old new is part = nothing old new (subst (λ x. NotesPart old (names_of x.writes) new) is part)
written held rose (Some plan) o old new (inl a) part = elim (named a.command o a.answer) [
  | inl same ↦ subst (λ names. NotesPart old names new) (same ∙ sym (outputs_kept (λ (file : File). file.name) a.command) ∙ ap outputs_of a.named) part
  | inr none ↦ subst (λ after. NotesPart old (outputs_of plan) after) (sym (nothing old new (subst (λ files. NotesPart old (names_of files) new) none part)))
      (none_noted old (outputs_of plan))
]
written held rose (Some plan) o old new (inr s) part =
    subst (λ after. NotesPart old (outputs_of plan) after) (sym (nothing old new (subst (λ files. NotesPart old (names_of files) new) (stopped s.cause) part)))
    (none_noted old (outputs_of plan))
  where
    stopped : ((o ≡ read_fault_of s.name) × (rose ⊎ IsMissing held s.name)) ⊎ ((o ≡ too_long_of s.name) × IsLonger held s.name 16777216) → o.writes ≡ []
    stopped (inl p) = ap (λ x. x.writes) p.0
    stopped (inr p) = ap (λ x. x.writes) p.0

-- ---- all of an outcome's files

-- out of memory and a failed write are statuses that no outcome has
no_answer : (s : Status) → (s ≡ Memory) ⊎ (s ≡ WriteFault) → is_answer s ≡ true → ⊥
no_answer s (inl e) h = cc
no_answer s (inr e) h = cc

no_refusal : (s : Status) → (s ≡ Memory) ⊎ (s ≡ WriteFault) → leaves_all s ≡ true → ⊥
no_refusal s (inl e) h = cc
no_refusal s (inr e) h = cc

no_no : (s : Status) → (s ≡ Memory) ⊎ (s ≡ WriteFault) → s ≡ No → ⊥
no_no s (inl e) h = cc
no_no s (inr e) h = cc

-- at these two nothing is claimed but a first part
pub stopped : (words : List Name) (before after : Moment) (status : Status) (asked_before asked_after old new : Names) → (status ≡ Memory) ⊎ (status ≡ WriteFault)
    → Asks (plan_of words) asked_before asked_after → Writes (plan_of words) old new → MakesCalls words before after status asked_before asked_after old new
stopped words before after status asked_before asked_after old new s asks writes = record {
  asks = asks;
  writes = writes;
  all = λ h. absurd (no_answer status s h);
  none = λ h. absurd (no_refusal status s h);
  judged = λ u plan p j. absurd (no_no status s u);
}

-- a call with an outcome
pub calls : (words : List Name) (before after : Moment) (status : Status) (o : Outcome)
    → IsPlannedBytes before.held (Rose before.read_faults after.read_faults) (plan_of words) o → Finished o before after status
    → (asked_before asked_after old new : Names) → Asks (plan_of words) asked_before asked_after → NotesPart old (names_of o.writes) new
    → (status ≢ Memory → status ≢ WriteFault → NotesAll old (names_of o.writes) new) → MakesCalls words before after status asked_before asked_after old new
calls words before after status o is_planned finished asked_before asked_after old new asks part whole = by_way finished
  where
    is : IsOutcome words before.held (Rose before.read_faults after.read_faults) o
    is = planned before.held (Rose before.read_faults after.read_faults) (plan_of words) o is_planned

    k : Known words before after o
    k = known words before after o (plan_of words) refl is

    writes : Writes (plan_of words) old new
    writes = written before.held (Rose before.read_faults after.read_faults) (plan_of words) o old new is part

    no_writes : o.writes ≡ [] → new ≡ old
    no_writes e = nothing old new (subst (λ files. NotesPart old (names_of files) new) e part)

    by_way : Finished o before after status → MakesCalls words before after status asked_before asked_after old new
    by_way (inl d) = record {
      asks = asks;
      writes = writes;
      all = λ h. record {
        came = record { outcome = o; is_outcome = is; status_is = sym d.status_is; held = d.held; put = subst (λ z. IsPut z o.report before after) (sym d.status_is) d.put; no_put = d.no_put };
        all = whole (λ m. k.no_memory (sym d.status_is ∙ m)) (λ f. k.no_fault (sym d.status_is ∙ f));
      };
      none = λ h. no_writes (k.quiet (rw d.status_is at h));
      judged = λ u plan p j. no_writes (unwritten words before after o plan p j (sym d.status_is ∙ u) (rw p at is));
    }
    by_way (inr (inl y)) = stopped words before after status asked_before asked_after old new (inr y.status_is) asks writes
    by_way (inr (inr (inl y))) = stopped words before after status asked_before asked_after old new (inr y.status_is) asks writes
    by_way (inr (inr (inr y))) = stopped words before after status asked_before asked_after old new (inl y.status_is) asks writes

-- how a call ends says nothing of the reads before
pub finished_since : (o : Outcome) (held held' : Held) (reads reads' writes writes' : ℕ) (taken : Option Bytes) (faults : ℕ) (after : Moment) (status : Status)
    → held' ≡ held → writes' ≡ writes → Finished o (moment held' reads' writes' taken faults) after status → Finished o (moment held reads writes taken faults) after status
finished_since o held held' reads reads' writes writes' taken faults after status e f (inl d) = inl (record {
  status_is = d.status_is;
  held = subst (λ h. Wrote h o.writes after.held) e d.held;
  put = d.put;
  no_write = λ none. d.no_write none ∙ f;
  no_put = d.no_put;
})
finished_since o held held' reads reads' writes writes' taken faults after status e f (inr (inl y)) = inr (inl (record {
  status_is = y.status_is;
  cause = subst (λ w. Rose w after.write_faults) f y.cause;
  held = subst (λ h. FailedAt h o.writes after.held) e y.held;
  put = y.put;
}))
finished_since o held held' reads reads' writes writes' taken faults after status e f (inr (inr (inl y))) = inr (inr (inl (record {
  status_is = y.status_is;
  was = y.was;
  report = y.report;
  cause = y.cause;
  held = subst (λ h. Wrote h o.writes after.held) e y.held;
  put = y.put;
})))
finished_since o held held' reads reads' writes writes' taken faults after status e f (inr (inr (inr y))) = inr (inr (inr (record {
  status_is = y.status_is;
  held = subst (λ h. WrotePart h o.writes after.held) e y.held;
  put = y.put;
})))
