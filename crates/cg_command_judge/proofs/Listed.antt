-- What `violations` answers.
use Rattle.std.proofs.Common.{◌≡◌, List, [], ◌∷◌, Ok, refl, sym, ◌∙◌, ap, subst}
use Rattle.cg_effects.specs.declared.outcome.Status.TheVariants.{Done, No}
use Rattle.cg_effects.specs.Outcome.{Name, File, Outcome}
use Rattle.cg_effects.specs.Ends.{Moment, Completed, Wrote, IsPut}
use Rattle.cg_files.specs.Held.{Holds, Appends}
use Rattle.cg_check.specs.Legal.{Mapped}
use Rattle.cg_check.specs.declared.rule.Violation.{Violation}
use Rattle.cg_inputs.specs.Sources.{AreGiven, AreMapped, HoldMapped}
use Rattle.cg_inputs.proofs.Sound.{IsSound, judging}
use Rattle.cg_inputs.proofs.Wholes.{whole}
use Rattle.cg_inputs.proofs.Answered.{sound_answer, quiet_answer, same_answer, done_answer, some_answer, left_answer, not_done, not_no}
use Rattle.cg_inputs.proofs.Mapped.{valid_given, IsValid, mapped_reading}
use Rattle.cg_command_judge.specs.Check.{IsLegalInput, IsLegalCheck}
use Rattle.cg_command_judge.proofs.Checked.{given_legal, hold_mapped}
use Rattle.cg_violations.specs.Violations.{violations_of, AreAll}
use Rattle.cg_violations.proofs.All.{are_all}
use Rattle.cg_command_judge.specs.Violations.{IsViolations, IsListed, listed_by, IsViolatedRun}

-- ---- status and writes

sound_listed : (m : Mapped) (vs : List Violation) → IsSound judging (listed_by m vs)
sound_listed m [] = record { own = refl; quiet = λ h. refl }
sound_listed m (v ∷ vs) = record { own = refl; quiet = λ h. refl }

pub sound_violations : (arch kernel mapping : File) (o : Outcome) → IsViolations arch kernel mapping o → IsSound judging o
sound_violations arch kernel mapping o p =
    sound_answer (AreMapped arch kernel mapping) IsListed (mapped_reading arch kernel mapping) judging refl
    (λ m o e. subst (IsSound judging) (sym e) (sound_listed m (violations_of m.arch m.kernel m.mapping))) o p

quiet_listed : (m : Mapped) (vs : List Violation) → (listed_by m vs).writes ≡ []
quiet_listed m [] = refl
quiet_listed m (v ∷ vs) = refl

pub quiet_violations : (arch kernel mapping : File) (o : Outcome) → IsViolations arch kernel mapping o → o.writes ≡ []
quiet_violations arch kernel mapping o p =
    quiet_answer (AreMapped arch kernel mapping) IsListed (mapped_reading arch kernel mapping)
    (λ m o e. ap (λ x. x.writes) e ∙ quiet_listed m (violations_of m.arch m.kernel m.mapping)) o p

pub same_violations : (arch kernel mapping : File) (a b : Outcome) → IsViolations arch kernel mapping a → IsViolations arch kernel mapping b → a.status ≡ b.status
same_violations arch kernel mapping a b p q =
    same_answer (AreMapped arch kernel mapping) IsListed (mapped_reading arch kernel mapping) (λ m a b x y. ap (λ z. z.status) (x ∙ sym y)) a b p q

-- ---- what is accepted

-- all violations of a mapping that was read
all_of : (m : Mapped) → IsValid m → AreAll m.arch m.kernel m.mapping (violations_of m.arch m.kernel m.mapping)
all_of m valid = are_all m.arch m.kernel m.mapping valid.arch valid.kernel valid.shape

pub accepted_violations : (arch kernel mapping : File) (o : Outcome) → IsLegalInput arch kernel mapping → IsViolations arch kernel mapping o → o.status ≡ Done
accepted_violations arch kernel mapping o a p =
    let valid = valid_given arch.bytes kernel.bytes mapping.bytes a.mapped a.given in
    let none : violations_of a.mapped.arch a.mapped.kernel a.mapped.mapping ≡ [] = (all_of a.mapped valid).none.1 a.legal in
    ap (λ x. x.status) (done_answer (AreMapped arch kernel mapping) IsListed (mapped_reading arch kernel mapping) a.mapped (given_legal arch kernel mapping a) o p)
    ∙ ap (λ vs. (listed_by a.mapped vs).status) none

-- ---- what there is

pub some_violations : (arch kernel mapping : File) → (o : Outcome) × IsViolations arch kernel mapping o
some_violations arch kernel mapping =
    some_answer (AreMapped arch kernel mapping) IsListed (mapped_reading arch kernel mapping) (λ m given. (listed_by m (violations_of m.arch m.kernel m.mapping), refl))

-- ---- what is left

module _ (arch kernel mapping : Name) (f g h : File) (before after : Moment) (arch_held : Holds before.held arch f.bytes) (kernel_held : Holds before.held kernel g.bytes) (mapping_held : Holds before.held mapping h.bytes) where
  held_of : (m : Mapped) → AreGiven f.bytes g.bytes h.bytes m → HoldMapped arch kernel mapping before m
  held_of m given = hold_mapped arch kernel mapping f g h before after arch_held kernel_held mapping_held m given

  legal_by : (m : Mapped) (vs : List Violation) (o : Outcome) → violations_of m.arch m.kernel m.mapping ≡ vs → AreGiven f.bytes g.bytes h.bytes m → o ≡ listed_by m vs → o.status ≡ Done → Completed o before after Done → IsLegalCheck arch kernel mapping before after
  legal_by m [] o e given is done c =
      record {
        mapped = m;
        read = held_of m given;
        legal = (all_of m (valid_given f.bytes g.bytes h.bytes m given)).none.0 e;
        put = subst (λ report. Appends before.taken report after.taken) (ap (λ x. x.report) is) (whole o.status o.report before after done c.put);
      }
  legal_by m (v ∷ vs) o e given is done c = absurd (let z : No ≡ Done = sym (ap (λ x. x.status) is) ∙ done in cc)

  violated_by : (m : Mapped) (vs : List Violation) (o : Outcome) → violations_of m.arch m.kernel m.mapping ≡ vs → AreGiven f.bytes g.bytes h.bytes m → o ≡ listed_by m vs → o.status ≡ No → Completed o before after No → IsViolatedRun arch kernel mapping before after
  violated_by m [] o e given is refused c = absurd (let z : Done ≡ No = sym (ap (λ x. x.status) is) ∙ refused in cc)
  violated_by m (v ∷ vs) o e given is refused c =
      let none : o.writes ≡ [] = ap (λ x. x.writes) is in
      let all = all_of m (valid_given f.bytes g.bytes h.bytes m given) in
      record {
        mapped = m;
        read = held_of m given;
        illegal = λ legal. let z : [] ≡ v ∷ vs = sym (all.none.1 legal) ∙ e in absurd (cc);
        violations = violations_of m.arch m.kernel m.mapping;
        are = refl;
        all = all;
        put = subst (λ x. IsPut x.status x.report before after) is c.put;
        kept = subst (λ fs. Wrote before.held fs after.held) none c.held;
        no_write = c.no_write none;
      }

  pub unviolated_left : (o : Outcome) → IsViolations f g h o → o.status ≡ Done → Completed o before after Done → IsLegalCheck arch kernel mapping before after
  unviolated_left o p done c =
      left_answer (AreMapped f g h) IsListed (mapped_reading f g h) (IsLegalCheck arch kernel mapping before after) o
      (λ m given is. legal_by m (violations_of m.arch m.kernel m.mapping) o refl given is done c) p (not_done o done)

  pub violated_left : (o : Outcome) → IsViolations f g h o → o.status ≡ No → Completed o before after No → IsViolatedRun arch kernel mapping before after
  violated_left o p refused c =
      left_answer (AreMapped f g h) IsListed (mapped_reading f g h) (IsViolatedRun arch kernel mapping before after) o
      (λ m given is. violated_by m (violations_of m.arch m.kernel m.mapping) o refl given is refused c) p (not_no o refused)
