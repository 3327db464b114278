-- The rows of the table of statuses.
use Rattle.std.proofs.Common.{◌≡◌, Bool, true, false, List, [], ◌∷◌, ◌++◌, Contains, Option, Some, None, refl, sym, ◌∙◌, ap, subst, ◌⊎◌, inl, inr, length, arith}
use Rattle.std.proofs.lemmas.Grind.{common_steps}
use Rattle.std.proofs.Math.Seq.{get_or-append_seam}
use Rattle.cg_files.specs.Causes.{Rose}
use Rattle.cg_files.specs.Held.{Held, IsMissing, IsLonger}
use Rattle.cg_effects.specs.declared.outcome.Status.{Status}
use Rattle.cg_effects.specs.declared.outcome.Status.TheVariants.{Done, Memory, Usage, Malformed, Impossible, ReadFault, WriteFault, BudgetSpent, No}
use Rattle.cg_effects.specs.Outcome.{Name, Outcome}
use Rattle.cg_effects.specs.Reads.{StopsAt, read_fault_of, too_long_of}
use Rattle.cg_effects.specs.Ends.{Moment, Finished}
use Rattle.cg_effects.specs.Status.{leaves_all}
use Rattle.cg_command.specs.declared.command.Command.{Command}
use Rattle.cg_command.specs.Command.{inputs_of}
use Rattle.cg_command.specs.Words.{plan_of}
use Rattle.cg_effects.specs.Refusals.{usage_outcome}
use Rattle.cg_top.proofs.Planned.{is_outcome}
use Rattle.cg_top.specs.TopCall.{IsPlanned, Ends, IsAnswered, IsStopped, IsByTable}
use Rattle.cg_top.proofs.Kept.{no_part}
use Rattle.cg_commands.proofs.Commands.{owns_of, sound}
use Rattle.cg_inputs.proofs.Sound.{never}

-- ---- where an outcome comes from

-- no command was asked, or it is what the command answers, or what the reading of its input files ended with
abbrev Origin : List Name → Held → Type 0 → Outcome → Type 0
Origin words held rose o = (o ≡ usage_outcome) ⊎ (IsAnswered words held o.status ⊎ IsStopped words held rose o.status)

origin : (words : List Name) (held : Held) (rose : Type 0) (o : Outcome) (p : Option (Command Name Name)) → plan_of words ≡ p → IsPlanned held rose p o → Origin words held rose o
origin words held rose o None e h = inl h
origin words held rose o (Some plan) e (inl a) = inr (inl (record { plan = plan; planned = e; outcome = o; answers = a; status_is = refl }))
origin words held rose o (Some plan) e (inr s) = inr (inr (record { plan = plan; planned = e; outcome = o; stops = s; status_is = refl }))

pub stop_status : (held : Held) (rose : Type 0) (names : List Name) (o : Outcome) → StopsAt held rose names o → (o.status ≡ ReadFault) ⊎ (o.status ≡ Malformed)
stop_status held rose names o s = elim s.cause [ inl p ↦ inl (ap (λ x. x.status) p.0) | inr p ↦ inr (ap (λ x. x.status) p.0) ]

-- the statuses that only a command's answer has
abbrev answer_alone : Status → Bool
answer_alone Done = true
answer_alone Impossible = true
answer_alone BudgetSpent = true
answer_alone No = true
answer_alone _ = false

not_alone : (s t : Status) → answer_alone s ≡ true → answer_alone t ≡ false → s ≡ t → ⊥
not_alone s t a b e = cc

answered : (words : List Name) (held : Held) (rose : Type 0) (o : Outcome) (s : Status) → answer_alone s ≡ true → s ≡ o.status → Origin words held rose o → IsAnswered words held s
answered words held rose o s t e (inl u) = absurd (not_alone s Usage t refl (e ∙ ap (λ x. x.status) u))
answered words held rose o s t e (inr (inl a)) = subst (λ z. IsAnswered words held z) (sym e) a
answered words held rose o s t e (inr (inr a)) = absurd (elim (stop_status held rose (inputs_of a.plan) a.outcome a.stops) [
  | inl r ↦ not_alone s ReadFault t refl (e ∙ sym a.status_is ∙ r)
  | inr m ↦ not_alone s Malformed t refl (e ∙ sym a.status_is ∙ m)
])

refused : (words : List Name) (held : Held) (rose : Type 0) (o : Outcome) (s : Status) → s ≡ Malformed → s ≡ o.status → Origin words held rose o → IsAnswered words held Malformed ⊎ IsStopped words held rose Malformed
refused words held rose o s m e (inl u) = absurd (let z : Usage ≡ Malformed = sym (ap (λ x. x.status) u) ∙ sym e ∙ m in cc)
refused words held rose o s m e (inr (inl a)) = inl (subst (λ z. IsAnswered words held z) (sym e ∙ m) a)
refused words held rose o s m e (inr (inr a)) = inr (subst (λ z. IsStopped words held rose z) (sym e ∙ m) a)

-- a command's answer is never a read fault
halted : (words : List Name) (held : Held) (rose : Type 0) (o : Outcome) (s : Status) → s ≡ ReadFault → s ≡ o.status → Origin words held rose o → IsStopped words held rose ReadFault
halted words held rose o s r e (inl u) = absurd (let z : Usage ≡ ReadFault = sym (ap (λ x. x.status) u) ∙ sym e ∙ r in cc)
halted words held rose o s r e (inr (inl a)) = absurd (never (owns_of a.answers.command) ReadFault a.outcome (sound a.answers.command a.outcome a.answers.answer) refl (a.status_is ∙ sym e ∙ r))
halted words held rose o s r e (inr (inr a)) = subst (λ z. IsStopped words held rose z) (sym e ∙ r) a

-- what is known of an outcome by its status
pub record Known (words : List Name) (before after : Moment) (o : Outcome) : Type 0 where
  pub usage : o.status ≡ Usage → plan_of words ≡ None
  pub unfit : plan_of words ≡ None → o ≡ usage_outcome
  pub read_fault : o.status ≡ ReadFault → Rose before.read_faults after.read_faults
      ⊎ ((plan : Command Name Name) × (plan_of words ≡ Some plan) × (name : Name) × Contains (inputs_of plan) name × IsMissing before.held name)
  pub no_fault : o.status ≡ WriteFault → ⊥
  pub no_memory : o.status ≡ Memory → ⊥
  pub quiet : leaves_all o.status ≡ true → o.writes ≡ []

there : (xs : List Name) (x : Name) (ys all : List Name) → all ≡ xs ++ x ∷ ys → Contains all x
there xs x ys all e = rw e (length xs, grind (arith, common_steps), get_or-append_seam xs x ys x)

one_plan : (p : Option (Command Name Name)) (plan : Command Name Name) → p ≡ Some plan → p ≡ None → ⊥
one_plan p plan a b = cc

from_stop : (words : List Name) (before after : Moment) (o : Outcome) (plan : Command Name Name) → plan_of words ≡ Some plan
    → StopsAt before.held (Rose before.read_faults after.read_faults) (inputs_of plan) o → Known words before after o
from_stop words before after o plan e s = by_cause s.cause
  where
    by_cause : ((o ≡ read_fault_of s.name) × (Rose before.read_faults after.read_faults ⊎ IsMissing before.held s.name))
        ⊎ ((o ≡ too_long_of s.name) × IsLonger before.held s.name 16777216) → Known words before after o
    by_cause (inl (q, c)) = rw q (record {
      usage = λ u. absurd (differ u);
      unfit = λ n. absurd (one_plan _ plan e n);
      read_fault = λ _. caused c;
      no_fault = λ u. differ_write u;
      no_memory = λ u. differ_memory u;
      quiet = λ _. refl;
    })
      where
        differ : ReadFault ≡ Usage → ⊥
        differ u = cc

        differ_write : ReadFault ≡ WriteFault → ⊥
        differ_write u = cc

        differ_memory : ReadFault ≡ Memory → ⊥
        differ_memory u = cc

        caused : Rose before.read_faults after.read_faults ⊎ IsMissing before.held s.name → Rose before.read_faults after.read_faults
            ⊎ ((p : Command Name Name) × (plan_of words ≡ Some p) × (name : Name) × Contains (inputs_of p) name × IsMissing before.held name)
        caused (inl r) = inl r
        caused (inr m) = inr (plan, e, s.name, there _ s.name s.rest (inputs_of plan) s.names_are, m)
    by_cause (inr (q, l)) = rw q (record {
      usage = λ u. absurd (differ u);
      unfit = λ n. absurd (one_plan _ plan e n);
      read_fault = λ u. absurd (differ_read u);
      no_fault = λ u. differ_write u;
      no_memory = λ u. differ_memory u;
      quiet = λ _. refl;
    })
      where
        differ : Malformed ≡ Usage → ⊥
        differ u = cc

        differ_read : Malformed ≡ ReadFault → ⊥
        differ_read u = cc

        differ_write : Malformed ≡ WriteFault → ⊥
        differ_write u = cc

        differ_memory : Malformed ≡ Memory → ⊥
        differ_memory u = cc

pub known : (words : List Name) (before after : Moment) (o : Outcome) (p : Option (Command Name Name)) → plan_of words ≡ p
    → IsPlanned before.held (Rose before.read_faults after.read_faults) p o → Known words before after o
known words before after o None e h = rw h (record {
  usage = λ _. e;
  unfit = λ _. refl;
  read_fault = λ u. absurd (differ_read u);
  no_fault = λ u. differ_write u;
  no_memory = λ u. differ_memory u;
  quiet = λ _. refl;
})
  where
    differ_read : Usage ≡ ReadFault → ⊥
    differ_read u = cc

    differ_write : Usage ≡ WriteFault → ⊥
    differ_write u = cc

    differ_memory : Usage ≡ Memory → ⊥
    differ_memory u = cc
known words before after o (Some plan) e (inl a) = let s = sound a.command o a.answer in record {
  usage = λ u. absurd (never (owns_of a.command) Usage o s refl u);
  unfit = λ n. absurd (one_plan _ plan e n);
  read_fault = λ u. absurd (never (owns_of a.command) ReadFault o s refl u);
  no_fault = λ u. never (owns_of a.command) WriteFault o s refl u;
  no_memory = λ u. never (owns_of a.command) Memory o s refl u;
  quiet = s.quiet;
}
known words before after o (Some plan) e (inr a) = from_stop words before after o plan e a

not_done : Usage ≡ Done → ⊥
not_done e = cc

-- what a status that no outcome of a command has tells: nothing of most rows
faulty : (words : List Name) (before after : Moment) (status : Status) → status ≡ WriteFault
    → Rose before.write_faults after.write_faults ⊎ Rose before.faults after.faults → (plan_of words ≡ None → ⊥) → IsByTable words before after status
faulty words before after status e cause fits = record {
  done = λ u. absurd (let z : WriteFault ≡ Done = sym e ∙ u in cc);
  malformed = λ u. absurd (let z : WriteFault ≡ Malformed = sym e ∙ u in cc);
  impossible = λ u. absurd (let z : WriteFault ≡ Impossible = sym e ∙ u in cc);
  spent = λ u. absurd (let z : WriteFault ≡ BudgetSpent = sym e ∙ u in cc);
  refused = λ u. absurd (let z : WriteFault ≡ No = sym e ∙ u in cc);
  usage = λ u. absurd (let z : WriteFault ≡ Usage = sym e ∙ u in cc);
  unfit = λ n. absurd (fits n);
  stopped = λ u. absurd (let z : WriteFault ≡ ReadFault = sym e ∙ u in cc);
  read_fault = λ u. absurd (let z : WriteFault ≡ ReadFault = sym e ∙ u in cc);
  write_fault = λ _. cause;
}

wanting : (words : List Name) (before after : Moment) (status : Status) → status ≡ Memory → IsByTable words before after status
wanting words before after status e = record {
  done = λ u. absurd (let z : Memory ≡ Done = sym e ∙ u in cc);
  malformed = λ u. absurd (let z : Memory ≡ Malformed = sym e ∙ u in cc);
  impossible = λ u. absurd (let z : Memory ≡ Impossible = sym e ∙ u in cc);
  spent = λ u. absurd (let z : Memory ≡ BudgetSpent = sym e ∙ u in cc);
  refused = λ u. absurd (let z : Memory ≡ No = sym e ∙ u in cc);
  usage = λ u. absurd (let z : Memory ≡ Usage = sym e ∙ u in cc);
  unfit = λ _. inr e;
  stopped = λ u. absurd (let z : Memory ≡ ReadFault = sym e ∙ u in cc);
  read_fault = λ u. absurd (let z : Memory ≡ ReadFault = sym e ∙ u in cc);
  write_fault = λ u. absurd (let z : Memory ≡ WriteFault = sym e ∙ u in cc);
}

pub table : (words : List Name) (before after : Moment) (status : Status) → Ends words before after status → IsByTable words before after status
table words before after status (inr g) = wanting words before after status g.status_is
table words before after status (inl e) = by_way e.finished
  where
    o : Outcome
    o = e.outcome

    rose : Type 0
    rose = Rose before.read_faults after.read_faults

    k : Known words before after o
    k = known words before after o (plan_of words) refl (is_outcome words before after status e)

    from : Origin words before.held rose o
    from = origin words before.held rose o (plan_of words) refl (is_outcome words before after status e)

    by_way : Finished o before after status → IsByTable words before after status
    by_way (inl d) = record {
      done = λ u. subst (λ z. IsAnswered words before.held z) u (answered words before.held rose o status (ap answer_alone u) d.status_is from);
      malformed = λ u. refused words before.held rose o status u d.status_is from;
      impossible = λ u. subst (λ z. IsAnswered words before.held z) u (answered words before.held rose o status (ap answer_alone u) d.status_is from);
      spent = λ u. subst (λ z. IsAnswered words before.held z) u (answered words before.held rose o status (ap answer_alone u) d.status_is from);
      refused = λ u. subst (λ z. IsAnswered words before.held z) u (answered words before.held rose o status (ap answer_alone u) d.status_is from);
      usage = λ u. k.usage (sym d.status_is ∙ u);
      unfit = λ n. inl (d.status_is ∙ ap (λ x. x.status) (k.unfit n));
      stopped = λ u. halted words before.held rose o status u d.status_is from;
      read_fault = λ u. k.read_fault (sym d.status_is ∙ u);
      write_fault = λ u. absurd (k.no_fault (sym d.status_is ∙ u));
    }
    by_way (inr (inl y)) = faulty words before after status y.status_is (inl y.cause)
        (λ n. no_part y.held.done y.held.failed y.held.rest (sym (ap (λ x. x.writes) (k.unfit n)) ∙ y.held.parts))
    by_way (inr (inr (inl y))) = faulty words before after status y.status_is (inr y.cause)
        (λ n. not_done (sym (ap (λ x. x.status) (k.unfit n)) ∙ y.was))
    by_way (inr (inr (inr y))) = wanting words before after status y.status_is
