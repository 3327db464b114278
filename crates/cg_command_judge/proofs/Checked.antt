-- What `check` answers.
use Rattle.std.proofs.Common.{◌≡◌, [], Option, Some, None, Result, Ok, refl, sym, ◌∙◌, ap, subst}
use Rattle.cg_model.specs.Mapping.{IsLegal}
use Rattle.cg_effects.specs.declared.outcome.Status.TheVariants.{Done, No}
use Rattle.cg_effects.specs.Outcome.{Name, File, Outcome}
use Rattle.cg_effects.specs.Ends.{Moment, Completed, Wrote, IsPut}
use Rattle.cg_effects.specs.Refusals.{reports}
use Rattle.cg_files.specs.Held.{Holds, Appends}
use Rattle.cg_check.specs.Legal.{Mapped}
use Rattle.cg_check.specs.declared.rule.Violation.{Violation}
use Rattle.cg_check.specs.Rules.{violation}
use Rattle.cg_check.proofs.Judged.{legal_from, keeps_all, breaks, rules_of}
use Rattle.cg_inputs.specs.Sources.{AreGiven, AreMapped, HoldMapped}
use Rattle.cg_command_judge.specs.Check.{IsCheck, IsChecked, checked_by, illegal_report, IsLegalInput, IsLegalCheck, IsIllegalCheck}
use Rattle.cg_inputs.proofs.Sound.{IsSound, judging}
use Rattle.cg_inputs.proofs.Wholes.{whole}
use Rattle.cg_inputs.proofs.Answered.{sound_answer, quiet_answer, same_answer, done_answer, some_answer, left_answer, not_done, not_no}
use Rattle.cg_inputs.proofs.Mapped.{valid_given, IsValid, mapped_is, mapped_reading}

-- ---- status and writes

sound_checked : (m : Mapped) (v : Option Violation) → IsSound judging (checked_by m v)
sound_checked m None = record { own = refl; quiet = λ h. refl }
sound_checked m (Some v) = record { own = refl; quiet = λ h. refl }

pub sound_check : (arch kernel mapping : File) (o : Outcome) → IsCheck arch kernel mapping o → IsSound judging o
sound_check arch kernel mapping o p =
    sound_answer (AreMapped arch kernel mapping) IsChecked (mapped_reading arch kernel mapping) judging refl
    (λ m o e. subst (IsSound judging) (sym e) (sound_checked m (violation m.arch m.kernel m.mapping))) o p

quiet_checked : (m : Mapped) (v : Option Violation) → (checked_by m v).writes ≡ []
quiet_checked m None = refl
quiet_checked m (Some v) = refl

pub quiet_check : (arch kernel mapping : File) (o : Outcome) → IsCheck arch kernel mapping o → o.writes ≡ []
quiet_check arch kernel mapping o p =
    quiet_answer (AreMapped arch kernel mapping) IsChecked (mapped_reading arch kernel mapping)
    (λ m o e. ap (λ x. x.writes) e ∙ quiet_checked m (violation m.arch m.kernel m.mapping)) o p

pub same_check : (arch kernel mapping : File) (a b : Outcome) → IsCheck arch kernel mapping a → IsCheck arch kernel mapping b → a.status ≡ b.status
same_check arch kernel mapping a b p q =
    same_answer (AreMapped arch kernel mapping) IsChecked (mapped_reading arch kernel mapping) (λ m a b x y. ap (λ z. z.status) (x ∙ sym y)) a b p q

-- ---- what is accepted

-- a legal mapping's files give it
pub given_legal : (arch kernel mapping : File) (a : IsLegalInput arch kernel mapping) (mapped : Result Mapped Outcome) → AreMapped arch kernel mapping mapped → mapped ≡ Ok a.mapped
given_legal arch kernel mapping a mapped g = mapped_is arch kernel mapping a.mapped mapped a.given g

-- it violates no rule
no_violation_by : (m : Mapped) (v : Option Violation) → violation m.arch m.kernel m.mapping ≡ v → IsValid m → IsLegal m.arch m.kernel m.mapping → v ≡ None
no_violation_by m None e valid legal = refl
no_violation_by m (Some v) e valid legal = absurd (breaks m.arch m.kernel m.mapping valid.arch valid.kernel valid.shape v.rule v.place e (rules_of m.arch m.kernel m.mapping legal v.rule))

pub no_violation : (m : Mapped) → IsValid m → IsLegal m.arch m.kernel m.mapping → violation m.arch m.kernel m.mapping ≡ None
no_violation m valid legal = no_violation_by m (violation m.arch m.kernel m.mapping) refl valid legal

-- and what violates none is legal
pub legal_without : (m : Mapped) → IsValid m → violation m.arch m.kernel m.mapping ≡ None → IsLegal m.arch m.kernel m.mapping
legal_without m valid none = legal_from m.arch m.kernel m.mapping valid.arch valid.kernel valid.shape (keeps_all m.arch m.kernel m.mapping valid.arch valid.kernel valid.shape none)

pub accepted_check : (arch kernel mapping : File) (o : Outcome) → IsLegalInput arch kernel mapping → IsCheck arch kernel mapping o → o.status ≡ Done
accepted_check arch kernel mapping o a p =
    ap (λ x. x.status) (done_answer (AreMapped arch kernel mapping) IsChecked (mapped_reading arch kernel mapping) a.mapped (given_legal arch kernel mapping a) o p)
    ∙ ap (λ v. (checked_by a.mapped v).status) (no_violation a.mapped (valid_given arch.bytes kernel.bytes mapping.bytes a.mapped a.given) a.legal)

-- ---- what there is

pub some_check : (arch kernel mapping : File) → (o : Outcome) × IsCheck arch kernel mapping o
some_check arch kernel mapping =
    some_answer (AreMapped arch kernel mapping) IsChecked (mapped_reading arch kernel mapping) (λ m given. (checked_by m (violation m.arch m.kernel m.mapping), refl))

-- ---- what is left

module _ (arch kernel mapping : Name) (f g h : File) (before after : Moment) (arch_held : Holds before.held arch f.bytes) (kernel_held : Holds before.held kernel g.bytes) (mapping_held : Holds before.held mapping h.bytes) where
  pub hold_mapped : (m : Mapped) → AreGiven f.bytes g.bytes h.bytes m → HoldMapped arch kernel mapping before m
  hold_mapped m given =
      record {
        arch_bytes = f.bytes;
        arch_held = arch_held;
        kernel_bytes = g.bytes;
        kernel_held = kernel_held;
        mapping_bytes = h.bytes;
        mapping_held = mapping_held;
        given = given;
      }

  legal_by : (m : Mapped) (v : Option Violation) (o : Outcome) → violation m.arch m.kernel m.mapping ≡ v → AreGiven f.bytes g.bytes h.bytes m → o ≡ checked_by m v → o.status ≡ Done → Completed o before after Done → IsLegalCheck arch kernel mapping before after
  legal_by m None o e given is done c =
      record {
        mapped = m;
        read = hold_mapped m given;
        legal = legal_without m (valid_given f.bytes g.bytes h.bytes m given) e;
        put = subst (λ report. Appends before.taken report after.taken) (ap (λ x. x.report) is) (whole o.status o.report before after done c.put);
      }
  legal_by m (Some v) o e given is done c = absurd (let z : No ≡ Done = sym (ap (λ x. x.status) is) ∙ done in cc)

  pub illegal_by : (m : Mapped) (v : Violation) (o : Outcome) → violation m.arch m.kernel m.mapping ≡ Some v → AreGiven f.bytes g.bytes h.bytes m → o ≡ reports No (illegal_report m.arch m.kernel v) → Completed o before after No → IsIllegalCheck arch kernel mapping before after
  illegal_by m v o e given is c =
      let none : o.writes ≡ [] = ap (λ x. x.writes) is in
      record {
        mapped = m;
        read = hold_mapped m given;
        illegal = λ legal. let z : None ≡ Some v = sym (no_violation m (valid_given f.bytes g.bytes h.bytes m given) legal) ∙ e in absurd (cc);
        lowest = v;
        lowest_is = e;
        put = subst (λ x. IsPut x.status x.report before after) is c.put;
        kept = subst (λ fs. Wrote before.held fs after.held) none c.held;
        no_write = c.no_write none;
      }

  illegal_if : (m : Mapped) (v : Option Violation) (o : Outcome) → violation m.arch m.kernel m.mapping ≡ v → AreGiven f.bytes g.bytes h.bytes m → o ≡ checked_by m v → o.status ≡ No → Completed o before after No → IsIllegalCheck arch kernel mapping before after
  illegal_if m None o e given is refused c = absurd (let z : Done ≡ No = sym (ap (λ x. x.status) is) ∙ refused in cc)
  illegal_if m (Some v) o e given is refused c = illegal_by m v o e given is c

  pub legal_left : (o : Outcome) → IsCheck f g h o → o.status ≡ Done → Completed o before after Done → IsLegalCheck arch kernel mapping before after
  legal_left o p done c =
      left_answer (AreMapped f g h) IsChecked (mapped_reading f g h) (IsLegalCheck arch kernel mapping before after) o
      (λ m given is. legal_by m (violation m.arch m.kernel m.mapping) o refl given is done c) p (not_done o done)

  pub illegal_left : (o : Outcome) → IsCheck f g h o → o.status ≡ No → Completed o before after No → IsIllegalCheck arch kernel mapping before after
  illegal_left o p refused c =
      left_answer (AreMapped f g h) IsChecked (mapped_reading f g h) (IsIllegalCheck arch kernel mapping before after) o
      (λ m given is. illegal_if m (violation m.arch m.kernel m.mapping) o refl given is refused c) p (not_no o refused)
