-- What is held and what was put, by status.
use Rattle.std.proofs.Common.{◌≡◌, ◌⊎◌, true, List, [], Some, refl, sym, ◌∙◌, ap, subst, inl, inr}
use Rattle.cg_files.specs.Causes.{Rose}
use Rattle.cg_effects.specs.declared.outcome.Status.{Status}
use Rattle.cg_effects.specs.declared.outcome.Status.TheVariants.{Memory, Malformed, ReadFault, WriteFault, No}
use Rattle.cg_effects.specs.Outcome.{Name, File, Outcome}
use Rattle.cg_effects.specs.Ends.{Moment, Finished, IsPut}
use Rattle.cg_effects.specs.Status.{leaves_all}
use Rattle.cg_command.specs.declared.command.Command.{Command}
use Rattle.cg_command.specs.Command.{inputs_of}
use Rattle.cg_command.specs.Words.{plan_of}
use Rattle.cg_commands.specs.Commands.{judges, RunWrites}
use Rattle.cg_commands.proofs.Judged.{judged, judges_kept}
use Rattle.cg_commands.proofs.Written.{writes_run}
use Rattle.cg_top.proofs.Planned.{is_outcome}
use Rattle.cg_top.specs.TopCall.{IsPlanned, IsOutcome, WritesRun, Ends, Halted, Unput, Begun, IsEffect, is_answer}
use Rattle.cg_top.proofs.Kept.{kept}
use Rattle.cg_top.proofs.Table.{Known, known, stop_status}

-- ---- the two statuses that no outcome has

no_answer_memory : (s : Status) → s ≡ Memory → is_answer s ≡ true → ⊥
no_answer_memory s e h = cc

no_answer_fault : (s : Status) → s ≡ WriteFault → is_answer s ≡ true → ⊥
no_answer_fault s e h = cc

loud_memory : (s : Status) → s ≡ Memory → leaves_all s ≡ true → ⊥
loud_memory s e h = cc

loud_fault : (s : Status) → s ≡ WriteFault → leaves_all s ≡ true → ⊥
loud_fault s e h = cc

-- ---- by how the call ended

wanting : (words : List Name) (before after : Moment) (status : Status) → status ≡ Memory → after.taken ≡ before.taken
    → Begun words before after ⊎ (after.held ≡ before.held) → Ends words before after status → IsEffect words before after status
wanting words before after status e put begun ends = record {
  came = λ h. absurd (no_answer_memory status e h);
  failed = λ u. absurd (let z : Memory ≡ WriteFault = sym e ∙ u in cc);
  begun = λ _. begun;
  silent = λ _. put;
  kept = λ h. absurd (loud_memory status e h);
  judged = λ u plan p j. absurd (let z : Memory ≡ No = sym e ∙ u in cc);
  nothing_asked = kept words before after status ends;
}

faulty : (words : List Name) (before after : Moment) (status : Status) → status ≡ WriteFault → Halted words before after ⊎ Unput words before after
    → Ends words before after status → IsEffect words before after status
faulty words before after status e failed ends = record {
  came = λ h. absurd (no_answer_fault status e h);
  failed = λ _. failed;
  begun = λ u. absurd (let z : WriteFault ≡ Memory = sym e ∙ u in cc);
  silent = λ u. absurd (let z : WriteFault ≡ Memory = sym e ∙ u in cc);
  kept = λ h. absurd (loud_fault status e h);
  judged = λ u plan p j. absurd (let z : WriteFault ≡ No = sym e ∙ u in cc);
  nothing_asked = kept words before after status ends;
}

-- an outcome that is No, of a command that judges a mapping, writes nothing
pub unwritten : (words : List Name) (before after : Moment) (o : Outcome) (plan : Command Name Name) → plan_of words ≡ Some plan → judges plan ≡ true → o.status ≡ No
    → IsPlanned before.held (Rose before.read_faults after.read_faults) (Some plan) o → o.writes ≡ []
unwritten words before after o plan p j said (inl a) =
    judged a.command o (sym (judges_kept (λ (file : File). file.name) (λ (name : Name). name) a.command) ∙ ap judges a.named ∙ j) a.answer said
unwritten words before after o plan p j said (inr s) = absurd (elim (stop_status before.held (Rose before.read_faults after.read_faults) (inputs_of plan) o s) [
  | inl r ↦ let z : ReadFault ≡ No = sym r ∙ said in cc
  | inr m ↦ let z : Malformed ≡ No = sym m ∙ said in cc
])

-- what an outcome writes of bits runs a mapping
runs_of : (words : List Name) (before after : Moment) (o : Outcome) → IsOutcome words before.held (Rose before.read_faults after.read_faults) o → WritesRun words before o
runs_of words before after o is plan p = by (rw p at is)
  where
    by : IsPlanned before.held (Rose before.read_faults after.read_faults) (Some plan) o → RunWrites o.writes plan before
    by (inl a) = subst (λ c. RunWrites o.writes c before) a.named (writes_run a.command o before a.read a.answer)
    by (inr s) =
        let none : o.writes ≡ [] = elim s.cause [ inl c ↦ ap (λ x. x.writes) c.0 | inr c ↦ ap (λ x. x.writes) c.0 ] in
        subst (λ ws. RunWrites ws plan before) (sym none) tt

pub effect : (words : List Name) (before after : Moment) (status : Status) → Ends words before after status → IsEffect words before after status
effect words before after status (inr g) = wanting words before after status g.status_is g.put (inr g.held) (inr g)
effect words before after status (inl e) = by_way e.finished
  where
    o : Outcome
    o = e.outcome

    k : Known words before after o
    k = known words before after o (plan_of words) refl (is_outcome words before after status e)

    runs : WritesRun words before o
    runs = runs_of words before after o (is_outcome words before after status e)

    by_way : Finished o before after status → IsEffect words before after status
    by_way (inl d) = record {
      came = λ _. record { outcome = o; is_outcome = is_outcome words before after status e; status_is = sym d.status_is; held = d.held; put = subst (λ z. IsPut z o.report before after) (sym d.status_is) d.put; no_put = d.no_put };
      failed = λ u. absurd (k.no_fault (sym d.status_is ∙ u));
      begun = λ u. absurd (k.no_memory (sym d.status_is ∙ u));
      silent = λ u. absurd (k.no_memory (sym d.status_is ∙ u));
      kept = λ h. let q : o.writes ≡ [] = k.quiet (rw d.status_is at h) in (rw q at d.held, d.no_write q);
      judged = λ u plan p j.
          let q : o.writes ≡ [] = unwritten words before after o plan p j (sym d.status_is ∙ u) (rw p at (is_outcome words before after status e)) in
          (rw q at d.held, d.no_write q);
      nothing_asked = kept words before after status (inl e);
    }
    by_way (inr (inl y)) = faulty words before after status y.status_is
        (inl (record { outcome = o; is_outcome = is_outcome words before after status e; cause = y.cause; held = y.held; put = y.put; runs = runs })) (inl e)
    by_way (inr (inr (inl y))) = faulty words before after status y.status_is
        (inr (record { outcome = o; is_outcome = is_outcome words before after status e; was = y.was; cause = y.cause; held = y.held; put = y.put; runs = runs })) (inl e)
    by_way (inr (inr (inr y))) = wanting words before after status y.status_is y.put
        (inl (record { outcome = o; is_outcome = is_outcome words before after status e; held = y.held; runs = runs })) (inl e)
