-- What `show` answers, and what it leaves.
use Rattle.std.proofs.Common.{◌≡◌, List, [], ◌∷◌, Option, Some, None, Ok, refl, sym, ◌∙◌, ap, subst, inl, inr}
use Rattle.cg_effects.specs.declared.outcome.Status.TheVariants.{Done, No}
use Rattle.cg_effects.specs.Outcome.{Name, File, Outcome, names_of}
use Rattle.cg_effects.specs.Ends.{Moment, Completed, Wrote}
use Rattle.cg_effects.specs.Refusals.{reports}
use Rattle.cg_files.specs.Held.{Holds, Appends}
use Rattle.cg_check.specs.Legal.{Mapped}
use Rattle.cg_check.specs.declared.rule.Violation.{Violation}
use Rattle.cg_check.specs.Rules.{violation}
use Rattle.cg_inputs.specs.Sources.{AreGiven, AreMapped}
use Rattle.cg_inputs.proofs.Sound.{IsSound, judging, IsNamed}
use Rattle.cg_inputs.proofs.Wholes.{whole, one_write}
use Rattle.cg_inputs.proofs.Answered.{sound_answer, named_answer, unwritten_answer, same_answer, done_answer, some_answer, left_answer, not_done, not_no}
use Rattle.cg_inputs.proofs.Mapped.{valid_given, IsValid, mapped_reading}
use Rattle.cg_command_judge.specs.Check.{illegal_report, IsLegalInput, IsIllegalCheck}
use Rattle.cg_command_judge.proofs.Checked.{given_legal, no_violation, legal_without, hold_mapped, illegal_by}
use Rattle.cg_occupancy.proofs.Shown.{are_exact}
use Rattle.cg_show_table.specs.declared.margin.Margin.{Margin}
use Rattle.cg_command_judge.specs.Show.{IsShow, IsShownBy, IsShowing, IsShownRun, HoldPicture, show_report, show_picture, show_writes}
use Rattle.cg_command_judge.proofs.Margins.{some_margin}

-- ---- status and writes

sound_by : (outs : List Name) (m : Mapped) (v : Option Violation) (o : Outcome) → IsShownBy outs m v o → IsSound judging o
sound_by outs m None o p = subst (IsSound judging) (sym p.outcome) (record { own = refl; quiet = λ h. cc })
sound_by outs m (Some v) o p = subst (IsSound judging) (sym p) (record { own = refl; quiet = λ h. refl })

pub sound_show : (arch kernel mapping : File) (outs : List Name) (o : Outcome) → IsShow arch kernel mapping outs o → IsSound judging o
sound_show arch kernel mapping outs o p =
    sound_answer (AreMapped arch kernel mapping) (IsShowing outs) (mapped_reading arch kernel mapping) judging refl (λ m o e. sound_by outs m (violation m.arch m.kernel m.mapping) o e) o p

named_writes : (outs : List Name) (m : Mapped) (margin : Margin) (o : Outcome) → o.writes ≡ show_writes m margin outs → IsNamed outs o
named_writes [] m margin o e = inr e
named_writes (out ∷ []) m margin o e = inl (ap names_of e)
named_writes (out ∷ other ∷ outs) m margin o e = inr e

named_by : (outs : List Name) (m : Mapped) (v : Option Violation) (o : Outcome) → IsShownBy outs m v o → IsNamed outs o
named_by outs m None o p = named_writes outs m p.margin o (ap (λ x. x.writes) p.outcome)
named_by outs m (Some v) o p = inr (ap (λ x. x.writes) p)

pub named_show : (arch kernel mapping : File) (outs : List Name) (o : Outcome) → IsShow arch kernel mapping outs o → IsNamed outs o
named_show arch kernel mapping outs o p =
    named_answer (AreMapped arch kernel mapping) (IsShowing outs) (mapped_reading arch kernel mapping) outs (λ m o e. named_by outs m (violation m.arch m.kernel m.mapping) o e) o p

-- where the answer is No nothing is written
unwritten_by : (outs : List Name) (m : Mapped) (v : Option Violation) (o : Outcome) → IsShownBy outs m v o → o.status ≡ No → o.writes ≡ []
unwritten_by outs m None o p said = absurd (let z : Done ≡ No = sym (ap (λ x. x.status) p.outcome) ∙ said in cc)
unwritten_by outs m (Some v) o p said = ap (λ x. x.writes) p

pub unwritten_show : (arch kernel mapping : File) (outs : List Name) (o : Outcome) → IsShow arch kernel mapping outs o → o.status ≡ No → o.writes ≡ []
unwritten_show arch kernel mapping outs o p said =
    unwritten_answer (AreMapped arch kernel mapping) (IsShowing outs) (mapped_reading arch kernel mapping) (λ m o e said. unwritten_by outs m (violation m.arch m.kernel m.mapping) o e said) o p said

same_shown : (outs : List Name) (m : Mapped) (v : Option Violation) (a b : Outcome) → IsShownBy outs m v a → IsShownBy outs m v b → a.status ≡ b.status
same_shown outs m None a b p q = ap (λ x. x.status) p.outcome ∙ sym (ap (λ x. x.status) q.outcome)
same_shown outs m (Some v) a b p q = ap (λ x. x.status) p ∙ sym (ap (λ x. x.status) q)

pub same_show : (arch kernel mapping : File) (outs : List Name) (a b : Outcome) → IsShow arch kernel mapping outs a → IsShow arch kernel mapping outs b → a.status ≡ b.status
same_show arch kernel mapping outs a b p q =
    same_answer (AreMapped arch kernel mapping) (IsShowing outs) (mapped_reading arch kernel mapping) (λ m a b x y. same_shown outs m (violation m.arch m.kernel m.mapping) a b x y) a b p q

-- ---- what is accepted

accepted_by : (outs : List Name) (m : Mapped) (v : Option Violation) (o : Outcome) → v ≡ None → IsShownBy outs m v o → o.status ≡ Done
accepted_by outs m None o e p = ap (λ x. x.status) p.outcome
accepted_by outs m (Some v) o e p = absurd (cc)

pub accepted_show : (arch kernel mapping : File) (outs : List Name) (o : Outcome) → IsLegalInput arch kernel mapping → IsShow arch kernel mapping outs o → o.status ≡ Done
accepted_show arch kernel mapping outs o a p =
    accepted_by outs a.mapped (violation a.mapped.arch a.mapped.kernel a.mapped.mapping) o
    (no_violation a.mapped (valid_given arch.bytes kernel.bytes mapping.bytes a.mapped a.given) a.legal)
    (done_answer (AreMapped arch kernel mapping) (IsShowing outs) (mapped_reading arch kernel mapping) a.mapped (given_legal arch kernel mapping a) o p)

-- ---- what there is

some_by : (outs : List Name) (m : Mapped) (v : Option Violation) → violation m.arch m.kernel m.mapping ≡ v → IsValid m → (o : Outcome) × IsShownBy outs m v o
some_by outs m None e valid =
    let (margin, is) = some_margin m.arch m.kernel m.mapping valid.arch valid.kernel (legal_without m valid e) in
    (record { status = Done; report = show_report m margin; writes = show_writes m margin outs }, record { margin = margin; is_margin = is; outcome = refl })
some_by outs m (Some v) e valid = (reports No (illegal_report m.arch m.kernel v), refl)

pub some_show : (arch kernel mapping : File) (outs : List Name) → (o : Outcome) × IsShow arch kernel mapping outs o
some_show arch kernel mapping outs =
    some_answer (AreMapped arch kernel mapping) (IsShowing outs) (mapped_reading arch kernel mapping)
    (λ m given. some_by outs m (violation m.arch m.kernel m.mapping) refl (valid_given arch.bytes kernel.bytes mapping.bytes m given))

-- ---- what is left

module _ (arch kernel mapping : Name) (outs : List Name) (f g h : File) (before after : Moment) (arch_held : Holds before.held arch f.bytes) (kernel_held : Holds before.held kernel g.bytes) (mapping_held : Holds before.held mapping h.bytes) where
  held_picture : (names : List Name) (m : Mapped) (margin : Margin) → Wrote before.held (show_writes m margin names) after.held → HoldPicture after.held names (show_picture m margin)
  held_picture [] m margin w = tt
  held_picture (out ∷ []) m margin w = one_write before.held after.held out (show_picture m margin) w
  held_picture (out ∷ other ∷ names) m margin w = tt

  shown_by : (m : Mapped) (v : Option Violation) (o : Outcome) → violation m.arch m.kernel m.mapping ≡ v → AreGiven f.bytes g.bytes h.bytes m → IsShownBy outs m v o → o.status ≡ Done → Completed o before after Done → IsShownRun arch kernel mapping outs before after
  shown_by m None o e given is done c =
      let legal = legal_without m (valid_given f.bytes g.bytes h.bytes m given) e in
      record {
        mapped = m;
        read = hold_mapped arch kernel mapping f g h before after arch_held kernel_held mapping_held m given;
        legal = legal;
        exact = are_exact m legal;
        margin = is.margin;
        is_margin = is.is_margin;
        written = held_picture outs m is.margin (subst (λ fs. Wrote before.held fs after.held) (ap (λ x. x.writes) is.outcome) c.held);
        put = subst (λ report. Appends before.taken report after.taken) (ap (λ x. x.report) is.outcome) (whole o.status o.report before after done c.put);
      }
  shown_by m (Some v) o e given is done c = absurd (let z : No ≡ Done = sym (ap (λ x. x.status) is) ∙ done in cc)

  unshown_by : (m : Mapped) (v : Option Violation) (o : Outcome) → violation m.arch m.kernel m.mapping ≡ v → AreGiven f.bytes g.bytes h.bytes m → IsShownBy outs m v o → o.status ≡ No → Completed o before after No → IsIllegalCheck arch kernel mapping before after
  unshown_by m None o e given is refused c = absurd (let z : Done ≡ No = sym (ap (λ x. x.status) is.outcome) ∙ refused in cc)
  unshown_by m (Some v) o e given is refused c = illegal_by arch kernel mapping f g h before after arch_held kernel_held mapping_held m v o e given is c

  pub shown_left : (o : Outcome) → IsShow f g h outs o → o.status ≡ Done → Completed o before after Done → IsShownRun arch kernel mapping outs before after
  shown_left o p done c =
      left_answer (AreMapped f g h) (IsShowing outs) (mapped_reading f g h) (IsShownRun arch kernel mapping outs before after) o
      (λ m given is. shown_by m (violation m.arch m.kernel m.mapping) o refl given is done c) p (not_done o done)

  pub unshown_left : (o : Outcome) → IsShow f g h outs o → o.status ≡ No → Completed o before after No → IsIllegalCheck arch kernel mapping before after
  unshown_left o p refused c =
      left_answer (AreMapped f g h) (IsShowing outs) (mapped_reading f g h) (IsIllegalCheck arch kernel mapping before after) o
      (λ m given is. unshown_by m (violation m.arch m.kernel m.mapping) o refl given is refused c) p (not_no o refused)
