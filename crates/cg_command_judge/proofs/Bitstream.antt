-- What `emit` answers, and what its bytes do.
use Rattle.std.proofs.Common.{◌≡◌, ℕ, List, [], ◌∷◌, Option, Some, None, Ok, refl, sym, ◌∙◌, ap, subst, inl, inr, ⊎_elim}
use Rattle.cg_model.specs.Array.{Arch, IsArch}
use Rattle.cg_model.specs.Kernel.{Kernel, IsKernel}
use Rattle.cg_model.specs.Configured.{configuration_of}
use Rattle.cg_model.specs.Mapping.{Mapping, IsShaped, IsLegal}
use Rattle.cg_overlap.proofs.Single.{carries_one}
use Rattle.cg_overlap.proofs.Canonical.{canonical}
use Rattle.cg_overlap.proofs.Overlap.{follows, leaves_the_same, begins_only, unaliased_without}
use Rattle.cg_effects.specs.declared.outcome.Status.TheVariants.{Done, No}
use Rattle.cg_effects.specs.Outcome.{Name, File, Outcome, names_of}
use Rattle.cg_effects.specs.Ends.{Moment, Completed, Wrote}
use Rattle.cg_effects.specs.Refusals.{reports}
use Rattle.cg_files.specs.Held.{Holds, Appends}
use Rattle.cg_bits.specs.Spelling.{AreBits}
use Rattle.cg_bits.proofs.Packed.{some_bits}
use Rattle.cg_check.specs.Legal.{Mapped, config_of}
use Rattle.cg_check.specs.declared.rule.Violation.{Violation}
use Rattle.cg_check.specs.Rules.{violation}
use Rattle.cg_emit.specs.Emitted.{RunLikeTurns}
use Rattle.cg_emit.proofs.Overlapped.{one_config, does_turns}
use Rattle.cg_inputs.specs.Sources.{AreGiven, AreMapped}
use Rattle.cg_command_judge.specs.Check.{illegal_report, IsLegalInput, IsIllegalCheck}
use Rattle.cg_command_judge.specs.Emit.{IsEmit, IsEmittedBy, IsEmission, RunsMapping, FirstRunsRead, IsEmittedRun, emit_report}
use Rattle.cg_inputs.proofs.Sound.{IsSound, judging, IsNamed}
use Rattle.cg_inputs.proofs.Wholes.{whole, one_write}
use Rattle.cg_inputs.proofs.Arrays.{sized}
use Rattle.cg_inputs.proofs.Answered.{sound_answer, named_answer, unwritten_answer, same_answer, done_answer, some_answer, left_answer, writes_answer, not_done, not_no}
use Rattle.cg_inputs.proofs.Mapped.{valid_given, IsValid, mapped_reading}
use Rattle.cg_command_judge.proofs.Checked.{given_legal, no_violation, legal_without, hold_mapped, illegal_by}

-- ---- what the bytes do

run_like_turns : (A : Arch) (K : Kernel) (M : Mapping) (bytes : List ℕ) → IsArch A → IsKernel K → IsLegal A K M → AreBits A (configuration_of A K M) bytes → RunLikeTurns A K M bytes
run_like_turns A K M bytes valid good legal spelled C other n image ordered =
    let unaliased = ⊎_elim (λ u. u) (λ never. unaliased_without K n image never) ordered in
    does_turns A K M C n image (one_config A (configuration_of A K M) C bytes valid (sized A) spelled other)
    (follows A K M n image valid good legal unaliased) (begins_only A K M n image legal) (leaves_the_same A K M n image valid good legal unaliased)

-- the bits of a legal mapping run it
pub runs : (m : Mapped) (bytes : List ℕ) → IsArch m.arch → IsKernel m.kernel → IsLegal m.arch m.kernel m.mapping → AreBits m.arch (config_of m) bytes → RunsMapping m bytes
runs m bytes valid good legal spelled = record {
  legal = legal;
  spelled = spelled;
  once = carries_one m.arch m.kernel m.mapping legal;
  overlaps = run_like_turns m.arch m.kernel m.mapping bytes valid good legal spelled;
}

-- there are such bits
pub some_run : (m : Mapped) → IsKernel m.kernel → IsShaped m.kernel m.mapping → IsLegal m.arch m.kernel m.mapping → (bytes : List ℕ) × AreBits m.arch (config_of m) bytes
some_run m good shape legal = some_bits m.arch (config_of m) (canonical m.arch m.kernel m.mapping good legal shape.places)

-- ---- status and writes

sound_by : (out : Name) (m : Mapped) (v : Option Violation) (o : Outcome) → IsEmittedBy out m v o → IsSound judging o
sound_by out m None o p = subst (IsSound judging) (sym p.outcome) (record { own = refl; quiet = λ h. cc })
sound_by out m (Some v) o p = subst (IsSound judging) (sym p) (record { own = refl; quiet = λ h. refl })

pub sound_emit : (arch kernel mapping : File) (out : Name) (o : Outcome) → IsEmit arch kernel mapping out o → IsSound judging o
sound_emit arch kernel mapping out o p =
    sound_answer (AreMapped arch kernel mapping) (IsEmission out) (mapped_reading arch kernel mapping) judging refl (λ m o e. sound_by out m (violation m.arch m.kernel m.mapping) o e) o p

named_by : (out : Name) (m : Mapped) (v : Option Violation) (o : Outcome) → IsEmittedBy out m v o → IsNamed (out ∷ []) o
named_by out m None o p = inl (ap (λ x. names_of x.writes) p.outcome)
named_by out m (Some v) o p = inr (ap (λ x. x.writes) p)

pub named_emit : (arch kernel mapping : File) (out : Name) (o : Outcome) → IsEmit arch kernel mapping out o → IsNamed (out ∷ []) o
named_emit arch kernel mapping out o p =
    named_answer (AreMapped arch kernel mapping) (IsEmission out) (mapped_reading arch kernel mapping) (out ∷ []) (λ m o e. named_by out m (violation m.arch m.kernel m.mapping) o e) o p

-- where the answer is No nothing is written
unwritten_by : (out : Name) (m : Mapped) (v : Option Violation) (o : Outcome) → IsEmittedBy out m v o → o.status ≡ No → o.writes ≡ []
unwritten_by out m None o is said = absurd (let z : Done ≡ No = sym (ap (λ x. x.status) is.outcome) ∙ said in cc)
unwritten_by out m (Some v) o is said = ap (λ x. x.writes) is

pub unwritten_emit : (arch kernel mapping : File) (out : Name) (o : Outcome) → IsEmit arch kernel mapping out o → o.status ≡ No → o.writes ≡ []
unwritten_emit arch kernel mapping out o p said =
    unwritten_answer (AreMapped arch kernel mapping) (IsEmission out) (mapped_reading arch kernel mapping) (λ m o e said. unwritten_by out m (violation m.arch m.kernel m.mapping) o e said) o p said

same_written : (out : Name) (m : Mapped) (v : Option Violation) (a b : Outcome) → IsEmittedBy out m v a → IsEmittedBy out m v b → a.status ≡ b.status
same_written out m None a b p q = ap (λ x. x.status) p.outcome ∙ sym (ap (λ x. x.status) q.outcome)
same_written out m (Some v) a b p q = ap (λ x. x.status) p ∙ sym (ap (λ x. x.status) q)

pub same_emit : (arch kernel mapping : File) (out : Name) (a b : Outcome) → IsEmit arch kernel mapping out a → IsEmit arch kernel mapping out b → a.status ≡ b.status
same_emit arch kernel mapping out a b p q =
    same_answer (AreMapped arch kernel mapping) (IsEmission out) (mapped_reading arch kernel mapping) (λ m a b x y. same_written out m (violation m.arch m.kernel m.mapping) a b x y) a b p q

-- ---- what is accepted

accepted_by : (out : Name) (m : Mapped) (v : Option Violation) (o : Outcome) → v ≡ None → IsEmittedBy out m v o → o.status ≡ Done
accepted_by out m None o e p = ap (λ x. x.status) p.outcome
accepted_by out m (Some v) o e p = absurd (cc)

pub accepted_emit : (arch kernel mapping : File) (out : Name) (o : Outcome) → IsLegalInput arch kernel mapping → IsEmit arch kernel mapping out o → o.status ≡ Done
accepted_emit arch kernel mapping out o a p =
    accepted_by out a.mapped (violation a.mapped.arch a.mapped.kernel a.mapped.mapping) o (no_violation a.mapped (valid_given arch.bytes kernel.bytes mapping.bytes a.mapped a.given) a.legal)
    (done_answer (AreMapped arch kernel mapping) (IsEmission out) (mapped_reading arch kernel mapping) a.mapped (given_legal arch kernel mapping a) o p)

-- ---- what there is

some_by : (out : Name) (m : Mapped) (v : Option Violation) → violation m.arch m.kernel m.mapping ≡ v → IsValid m → (o : Outcome) × IsEmittedBy out m v o
some_by out m None e valid =
    let legal = legal_without m valid e in
    let spelled = some_run m valid.kernel valid.shape legal in
    (record { status = Done; report = emit_report m; writes = record { name = out; bytes = spelled.0 } ∷ [] }, record { bytes = spelled.0; spelled = spelled.1; outcome = refl })
some_by out m (Some v) e valid = (reports No (illegal_report m.arch m.kernel v), refl)

pub some_emit : (arch kernel mapping : File) (out : Name) → (o : Outcome) × IsEmit arch kernel mapping out o
some_emit arch kernel mapping out =
    some_answer (AreMapped arch kernel mapping) (IsEmission out) (mapped_reading arch kernel mapping)
    (λ m given. some_by out m (violation m.arch m.kernel m.mapping) refl (valid_given arch.bytes kernel.bytes mapping.bytes m given))

-- ---- what is left

module _ (arch kernel mapping out : Name) (f g h : File) (before after : Moment) (arch_held : Holds before.held arch f.bytes) (kernel_held : Holds before.held kernel g.bytes) (mapping_held : Holds before.held mapping h.bytes) where
  emitted_by : (m : Mapped) (v : Option Violation) (o : Outcome) → violation m.arch m.kernel m.mapping ≡ v → AreGiven f.bytes g.bytes h.bytes m → IsEmittedBy out m v o → o.status ≡ Done → Completed o before after Done → IsEmittedRun arch kernel mapping out before after
  emitted_by m None o e given is done c =
      let valid = valid_given f.bytes g.bytes h.bytes m given in
      let legal = legal_without m valid e in
      record {
        mapped = m;
        read = hold_mapped arch kernel mapping f g h before after arch_held kernel_held mapping_held m given;
        bytes = is.bytes;
        written = one_write before.held after.held out is.bytes (subst (λ fs. Wrote before.held fs after.held) (ap (λ x. x.writes) is.outcome) c.held);
        runs = runs m is.bytes valid.arch valid.kernel legal is.spelled;
        put = subst (λ report. Appends before.taken report after.taken) (ap (λ x. x.report) is.outcome) (whole o.status o.report before after done c.put);
      }
  emitted_by m (Some v) o e given is done c = absurd (let z : No ≡ Done = sym (ap (λ x. x.status) is) ∙ done in cc)

  unemitted_by : (m : Mapped) (v : Option Violation) (o : Outcome) → violation m.arch m.kernel m.mapping ≡ v → AreGiven f.bytes g.bytes h.bytes m → IsEmittedBy out m v o → o.status ≡ No → Completed o before after No → IsIllegalCheck arch kernel mapping before after
  unemitted_by m None o e given is refused c = absurd (let z : Done ≡ No = sym (ap (λ x. x.status) is.outcome) ∙ refused in cc)
  unemitted_by m (Some v) o e given is refused c = illegal_by arch kernel mapping f g h before after arch_held kernel_held mapping_held m v o e given is c

  made_by : (m : Mapped) (v : Option Violation) (o : Outcome) → violation m.arch m.kernel m.mapping ≡ v → AreGiven f.bytes g.bytes h.bytes m → IsEmittedBy out m v o → FirstRunsRead arch kernel mapping before o.writes
  made_by m None o e given is =
      let valid = valid_given f.bytes g.bytes h.bytes m given in
      let legal = legal_without m valid e in
      subst (FirstRunsRead arch kernel mapping before) (sym (ap (λ x. x.writes) is.outcome))
      (record { mapped = m; read = hold_mapped arch kernel mapping f g h before after arch_held kernel_held mapping_held m given; runs = runs m is.bytes valid.arch valid.kernel legal is.spelled })
  made_by m (Some v) o e given is = subst (FirstRunsRead arch kernel mapping before) (sym (ap (λ x. x.writes) is)) tt

  pub emit_writes_run : (o : Outcome) → IsEmit f g h out o → FirstRunsRead arch kernel mapping before o.writes
  emit_writes_run o p =
      writes_answer (AreMapped f g h) (IsEmission out) (mapped_reading f g h) (FirstRunsRead arch kernel mapping before) tt o
      (λ m given is. made_by m (violation m.arch m.kernel m.mapping) o refl given is) p

  pub emitted_left : (o : Outcome) → IsEmit f g h out o → o.status ≡ Done → Completed o before after Done → IsEmittedRun arch kernel mapping out before after
  emitted_left o p done c =
      left_answer (AreMapped f g h) (IsEmission out) (mapped_reading f g h) (IsEmittedRun arch kernel mapping out before after) o
      (λ m given is. emitted_by m (violation m.arch m.kernel m.mapping) o refl given is done c) p (not_done o done)

  pub unemitted_left : (o : Outcome) → IsEmit f g h out o → o.status ≡ No → Completed o before after No → IsIllegalCheck arch kernel mapping before after
  unemitted_left o p refused c =
      left_answer (AreMapped f g h) (IsEmission out) (mapped_reading f g h) (IsIllegalCheck arch kernel mapping before after) o
      (λ m given is. unemitted_by m (violation m.arch m.kernel m.mapping) o refl given is refused c) p (not_no o refused)
