-- What `migrate` answers.
use Rattle.std.proofs.Common.{◌≡◌, ℕ, ◌≤◌, List, [], ◌∷◌, Option, Some, None, Result, Ok, Err, refl, sym, ◌∙◌, ap, subst, inl}
use Rattle.cg_word.specs.declared.op.Op.{Op}
use Rattle.cg_model.specs.Array.{Arch, IsArch}
use Rattle.cg_model.specs.Config.{Config, fields}
use Rattle.cg_files.specs.Held.{Holds, Appends}
use Rattle.cg_effects.specs.declared.outcome.Status.TheVariants.{Done}
use Rattle.cg_effects.specs.Outcome.{Name, File, Outcome, names_of}
use Rattle.cg_effects.specs.Ends.{Moment, Completed, Wrote}
use Rattle.cg_bits.specs.declared.fault.BitsFault.{BitsFault}
use Rattle.cg_bits.specs.Answers.{answer_in}
use Rattle.cg_bits.specs.Format.{cgb1, code_of}
use Rattle.cg_bits.specs.Ranges.{IsBytes}
use Rattle.cg_bits.specs.Spelling.{AreBits, AreFirstBits}
use Rattle.cg_bits.specs.Texts.{first_fault_text}
use Rattle.cg_bits.proofs.Answered.{first_canonical, first_bits_given}
use Rattle.cg_bits.proofs.Packed.{some_bits}
use Rattle.cg_sim.specs.FirstMachine.{IsFirst, IsFirstOp, first_greatest}
use Rattle.cg_sim.proofs.First.{machines_agree, first_of_canonical}
use Rattle.cg_command_judge.proofs.Bitstream.{runs}
use Rattle.cg_inputs.specs.Answered.{ReadThen}
use Rattle.cg_inputs.specs.Readings.{ReadsArch}
use Rattle.cg_inputs.proofs.Answered.{IsReading, sound_answer, named_answer, same_answer, done_answer, some_answer, left_answer, not_done}
use Rattle.cg_inputs.proofs.Arrays.{sized, valid_array}
use Rattle.cg_inputs.proofs.Both.{both_reading, only}
use Rattle.cg_inputs.proofs.Parsed.{determined, parsed_reading}
use Rattle.cg_inputs.proofs.Readings.{arch_reading}
use Rattle.cg_inputs.proofs.Sound.{IsSound, plain, IsNamed}
use Rattle.cg_inputs.proofs.Wholes.{whole, one_write}
use Rattle.cg_command_files.specs.Migrate.{IsMigrate, IsMigratable, IsMigrated, IsMigration, IsRewritten, MigrateBits, ReadsFirst, ReadsMigration, RunMappingsOf, migrate_report}

-- ---- what is read

first_reading : (A : Arch) (file : File) → IsReading (ReadsFirst A file)
first_reading A file = parsed_reading (λ a. answer_in cgb1 A file.bytes ≡ a) first_fault_text file.name (determined (answer_in cgb1 A file.bytes))

migration_reading : (arch file : File) → IsReading (ReadsMigration arch file)
migration_reading arch file = both_reading (ReadsArch arch) (λ A. ReadsFirst A file) (arch_reading arch) (λ A is. first_reading A file)

-- what the command answers for the file after the architecture
pub first_answer : (A : Arch) (file : File) (out : Name) (r : Result Config BitsFault) (o : Outcome) → answer_in cgb1 A file.bytes ≡ r → MigrateBits A file.name out o r → ReadThen (ReadsFirst A file) (λ C. IsMigration out (A, C)) o
first_answer A file out (Ok C) o e p = record { read = Ok C; is_read = e; answer = p }
first_answer A file out (Err f) o e p = record { read = Err o; is_read = (f, e, p); answer = refl }

-- ---- what is answered

module _ (arch file : File) (out : Name) where
  pub same_migrate : (a b : Outcome) → IsMigrate arch file out a → IsMigrate arch file out b → a.status ≡ b.status
  same_migrate a b p q =
      same_answer (ReadsMigration arch file) (IsMigration out) (migration_reading arch file) (λ s a b x y. ap (λ z. z.status) x.outcome ∙ sym (ap (λ z. z.status) y.outcome)) a b p q

  pub sound_migrate : (o : Outcome) → IsMigrate arch file out o → IsSound plain o
  sound_migrate o p =
      sound_answer (ReadsMigration arch file) (IsMigration out) (migration_reading arch file) plain refl (λ s o x. subst (IsSound plain) (sym x.outcome) (record { own = refl; quiet = λ h. cc })) o p

  pub named_migrate : (o : Outcome) → IsMigrate arch file out o → IsNamed (out ∷ []) o
  named_migrate o p = named_answer (ReadsMigration arch file) (IsMigration out) (migration_reading arch file) (out ∷ []) (λ s o x. inl (ap (λ z. names_of z.writes) x.outcome)) o p

  pub accepted_migrate : (o : Outcome) → IsMigratable arch file → IsMigrate arch file out o → o.status ≡ Done
  accepted_migrate o a p =
      let is = only (ReadsMigration arch file) (migration_reading arch file) (a.array, a.config) (a.given, a.config_is) in
      let x : IsRewritten a.array a.config out o = done_answer (ReadsMigration arch file) (IsMigration out) (migration_reading arch file) (a.array, a.config) is o p in
      ap (λ y. y.status) x.outcome

  some_for : (s : Arch × Config) → ReadsMigration arch file (Ok s) → (o : Outcome) × IsMigration out s o
  some_for s is =
      let bits = some_bits s.0 s.1 (first_canonical s.0 s.1 file.bytes (valid_array arch.bytes s.0 is.0) (sized s.0) is.1) in
      (record { status = Done; report = migrate_report s.1 bits.0; writes = record { name = out; bytes = bits.0 } ∷ [] }, record { bytes = bits.0; spelled = bits.1; outcome = refl })

  pub some_migrate : (o : Outcome) × IsMigrate arch file out o
  some_migrate = some_answer (ReadsMigration arch file) (IsMigration out) (migration_reading arch file) some_for

-- ---- what is left

first_op : (op : Option Op) → code_of op ≤ first_greatest → IsFirstOp op
first_op None h = tt
first_op (Some op) h = h

-- what bits of the first format spell is a configuration of that time
is_first : (A : Arch) (C : Config) (bytes : List ℕ) → AreFirstBits A C bytes → IsFirst C
is_first A C bytes bits = first_of_canonical A C bits.canonical (λ x slot lt in_time. first_op (fields C x slot).op (bits.spelled.known x slot lt in_time))

run_mappings : (A : Arch) (C : Config) (bytes : List ℕ) → IsArch A → AreBits A C bytes → RunMappingsOf A C bytes
run_mappings A C bytes valid spelled K M good legal is =
    runs (record { arch = A; kernel = K; mapping = M }) bytes valid good legal (subst (λ D. AreBits A D bytes) is spelled)

module _ (arch file out : Name) (f g : File) (o : Outcome) (before after : Moment)
    (arch_held : Holds before.held arch f.bytes) (held : Holds before.held file g.bytes) (fits : IsBytes g.bytes)
    (done : o.status ≡ Done) (c : Completed o before after Done)
  where
    migrated_by : (s : Arch × Config) → ReadsMigration f g (Ok s) → IsMigration out s o → IsMigrated arch file out before after
    migrated_by s is x =
        let valid = valid_array f.bytes s.0 is.0 in
        let first : AreFirstBits s.0 s.1 g.bytes = first_bits_given (Ok s.1) s.0 g.bytes valid (sized s.0) fits (sym is.1) in
        record {
          arch_bytes = f.bytes;
          arch_held = arch_held;
          array = s.0;
          given = is.0;
          old = g.bytes;
          held = held;
          config = s.1;
          spelled = first;
          new = x.bytes;
          written = one_write before.held after.held out x.bytes (subst (λ fs. Wrote before.held fs after.held) (ap (λ z. z.writes) x.outcome) c.held);
          respelled = x.spelled;
          same = machines_agree s.1 (is_first s.0 s.1 g.bytes first) s.0;
          turns = run_mappings s.0 s.1 x.bytes valid x.spelled;
          put = subst (λ report. Appends before.taken report after.taken) (ap (λ z. z.report) x.outcome) (whole o.status o.report before after done c.put);
        }

    pub migrated_left : IsMigrate f g out o → IsMigrated arch file out before after
    migrated_left p = left_answer (ReadsMigration f g) (IsMigration out) (migration_reading f g) (IsMigrated arch file out before after) o migrated_by p (not_done o done)
