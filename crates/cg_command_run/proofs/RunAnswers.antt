-- What `run` answers.
use Rattle.std.proofs.Common.{◌≡◌, ℕ, ◌<◌, ◌≤◌, List, [], ◌∷◌, length, nat_lt, Bool, true, false, cond, Result, Ok, refl, sym, ◌∙◌, ap, subst, inl, inr, ⊎_elim}
use Rattle.std.specs.Prelude.{IsErrAnd}
use Rattle.std.proofs.lemmas.Bool.{le-ltb, lt-ltb, ltb-false}
use Rattle.cg_model.specs.Work.{Image}
use Rattle.cg_model.specs.Array.{Arch, IsArch}
use Rattle.cg_model.specs.Config.{Config}
use Rattle.cg_model.specs.Configured.{configuration_of}
use Rattle.cg_model.specs.Machine.{machine_left}
use Rattle.cg_overlap.proofs.Overlap.{leaves_the_same, unaliased_without}
use Rattle.cg_files.specs.Held.{Holds, Appends}
use Rattle.cg_effects.specs.declared.outcome.Status.TheVariants.{Done}
use Rattle.cg_effects.specs.Outcome.{Name, File, Outcome}
use Rattle.cg_effects.specs.Ends.{Moment, Completed, Wrote}
use Rattle.cg_effects.specs.declared.outcome.Outcome.{Outcome as OutcomeValue}
use Rattle.cg_cause.specs.declared.stop.Stop.{Stop}
use Rattle.cg_cause.specs.Allowed.{Allows, EndsBy}
use Rattle.cg_cause.proofs.Allowed.{ends_weaker, stopped}
use Rattle.cg_bits.specs.Answers as bits
use Rattle.cg_bits.specs.Ranges.{IsBytes}
use Rattle.cg_bits.specs.Spelling.{AreBits}
use Rattle.cg_bits.proofs.Answered.{bits_of, config_is, none_answered}
use Rattle.cg_pad.specs.Bytes as images
use Rattle.cg_inputs.specs.Answered.{ReadThen}
use Rattle.cg_inputs.specs.Refused.{RefusesImage}
use Rattle.cg_inputs.specs.Readings.{ReadsArray, ReadsImage}
use Rattle.cg_inputs.proofs.Sound.{IsSound, plain, IsNamed}
use Rattle.cg_inputs.proofs.Answered.{IsReading, given_stop, refused_answer, sound_answer, named_answer, same_answer, done_answer, some_answer, left_answer, not_done}
use Rattle.cg_inputs.proofs.Both.{both_reading, only}
use Rattle.cg_inputs.proofs.Readings.{array_reading, image_reading, image_told}
use Rattle.cg_inputs.proofs.Arrays.{sized, valid_array}
use Rattle.cg_inputs.proofs.Wholes.{whole, one_write}
use Rattle.cg_command_run.specs.Run.{IsArrayCommand, IsRun, IsRunnable, IsArrayRun, HoldStart, LeavesTurns, ReadsStart, RunsArray, RunsFrom, ran, run_by_size, too_large}

-- ---- the configuration

-- bytes that are answered by a configuration spell it
pub spelled_answer : (A : Arch) (C : Config) (bytes : List ℕ) → IsArch A → bits.answer_of A bytes ≡ Ok C → IsBytes bytes → AreBits A C bytes
spelled_answer A C bytes valid e fits =
    let none : bits.faults_of A bytes ≡ [] = none_answered (bits.config_of A bytes) C (bits.faults_of A bytes) (sym e) in
    let read : bits.answer_of A bytes ≡ Ok (bits.config_of A bytes) = ap (λ fs. bits.unless_fault fs (bits.config_of A bytes)) none in
    let ok : Ok (bits.config_of A bytes) ≡ Ok C = sym read ∙ e in
    let same : bits.config_of A bytes ≡ C = cc in
    subst (λ D. AreBits A D bytes) same (bits_of A bytes valid (sized A) fits none)

-- the configuration that is read of a legal mapping's bits leaves what the turns leave
pub leaves_turns : (A : Arch) (n : ℕ) (image : Image) (C : Config) (bytes : List ℕ) → IsArch A → bits.answer_of A bytes ≡ Ok C → LeavesTurns A n image C bytes
leaves_turns A n image C bytes valid read K M good legal spelled ordered =
    let none : bits.faults_of A bytes ≡ [] = none_answered (bits.config_of A bytes) C (bits.faults_of A bytes) (sym read) in
    let answered : bits.answer_of A bytes ≡ Ok (bits.config_of A bytes) = ap (λ fs. bits.unless_fault fs (bits.config_of A bytes)) none in
    let ok : Ok (bits.config_of A bytes) ≡ Ok C = sym answered ∙ read in
    let read_is : bits.config_of A bytes ≡ C = cc in
    let same : configuration_of A K M ≡ C = sym (config_is A (configuration_of A K M) bytes valid (sized A) spelled) ∙ read_is in
    let unaliased = ⊎_elim (λ u. u) (λ never. unaliased_without K n image never) ordered in
    sym (ap (λ D. machine_left A D n image) same) ∙ (leaves_the_same A K M n image valid good legal unaliased).all

-- ---- the size of the image

module _ (A : Arch) (input : Name) (image : Image) (ran : Outcome) where
  pub run_too_large : A.memory < length image.memory → run_by_size A input image ran ≡ too_large input image
  run_too_large more = ap (λ b. cond b (too_large input image) ran) (lt-ltb A.memory (length image.memory) more)

  pub run_fits : length image.memory ≤ A.memory → run_by_size A input image ran ≡ ran
  run_fits fits = ap (λ b. cond b (too_large input image) ran) (le-ltb A.memory (length image.memory) fits)

  -- what holds of the run and of the refusal
  pub each_size : (P : Outcome → Type 0) → P ran → P (too_large input image) → (o : Outcome) → o ≡ run_by_size A input image ran → P o
  each_size P done refused o e = subst P (sym e) (by (nat_lt A.memory (length image.memory)))
    where
      by : (b : Bool) → P (cond b (too_large input image) ran)
      by true = refused
      by false = done

  -- where it is done the image fits
  pub ran_by_size : (o : Outcome) → o ≡ run_by_size A input image ran → o.status ≡ Done → (length image.memory ≤ A.memory) × (o ≡ ran)
  ran_by_size o e done = by (nat_lt A.memory (length image.memory)) refl e
    where
      by : (b : Bool) → nat_lt A.memory (length image.memory) ≡ b → o ≡ cond b (too_large input image) ran → (length image.memory ≤ A.memory) × (o ≡ ran)
      by true few is = absurd (not_done o done (ap (λ x. x.status) is))
      by false few is = (ltb-false A.memory (length image.memory) few, is)

-- ---- a command that runs an array

pub start_reading : (arch file input : File) → IsReading (ReadsStart arch file input)
start_reading arch file input = both_reading (ReadsArray arch file) (λ a. ReadsImage input) (array_reading arch file) (λ a is. image_reading input)

-- what was read is held
abbrev pub hold_start : (arch file input : Name) (f g h : File) (before : Moment) → Holds before.held arch f.bytes → Holds before.held file g.bytes → IsBytes g.bytes → Holds before.held input h.bytes
    → (s : (Arch × Config) × Image) → ReadsStart f g h (Ok s) → length s.1.memory ≤ s.0.0.memory → HoldStart arch file input before
hold_start arch file input f g h before arch_held held bytes image_held s is fits = record {
  arch_bytes = f.bytes;
  arch_held = arch_held;
  array = s.0.0;
  given = is.0.0;
  bytes = g.bytes;
  held = held;
  config = s.0.1;
  config_is = is.0.1;
  spelled = spelled_answer s.0.0 s.0.1 g.bytes (valid_array f.bytes s.0.0 is.0.0) is.0.1 bytes;
  image_bytes = h.bytes;
  image_held = image_held;
  image = s.1;
  image_is = is.1;
  fits = fits;
}

module _ (ran : Arch → Config → Image → Outcome) (arch file input : File) where
  pub sound_array : ((A : Arch) (C : Config) (image : Image) → IsSound plain (ran A C image)) → (o : Outcome) → IsArrayCommand ran arch file input o → IsSound plain o
  sound_array each o p =
      sound_answer (ReadsStart arch file input) (RunsArray ran input.name) (start_reading arch file input) plain refl
      (λ s o e. each_size s.0.0 input.name s.1 (ran s.0.0 s.0.1 s.1) (IsSound plain) (each s.0.0 s.0.1 s.1) (record { own = refl; quiet = λ h. refl }) o e) o p

  pub named_array : (outs : List Name) → ((A : Arch) (C : Config) (image : Image) → IsNamed outs (ran A C image)) → (o : Outcome) → IsArrayCommand ran arch file input o → IsNamed outs o
  named_array outs each o p =
      named_answer (ReadsStart arch file input) (RunsArray ran input.name) (start_reading arch file input) outs
      (λ s o e. each_size s.0.0 input.name s.1 (ran s.0.0 s.0.1 s.1) (IsNamed outs) (each s.0.0 s.0.1 s.1) (inr refl) o e) o p

  pub accepted_array : ((A : Arch) (C : Config) (image : Image) → (ran A C image).status ≡ Done) → (o : Outcome) → IsRunnable arch file input → IsArrayCommand ran arch file input o → o.status ≡ Done
  accepted_array ends o a p =
      let s : (Arch × Config) × Image = ((a.array, a.config), a.image) in
      let is = only (ReadsStart arch file input) (start_reading arch file input) s ((a.given, a.config_is), a.image_is) in
      ap (λ y. y.status)
      (done_answer (ReadsStart arch file input) (RunsArray ran input.name) (start_reading arch file input) s is o p ∙ run_fits a.array input.name a.image (ran a.array a.config a.image) a.fits)
      ∙ ends a.array a.config a.image

  pub same_array_command : (a b : Outcome) → IsArrayCommand ran arch file input a → IsArrayCommand ran arch file input b → a.status ≡ b.status
  same_array_command a b p q =
      same_answer (ReadsStart arch file input) (RunsArray ran input.name) (start_reading arch file input) (λ s a b x y. ap (λ z. z.status) (x ∙ sym y)) a b p q

  pub some_array_command : (o : Outcome) × IsArrayCommand ran arch file input o
  some_array_command =
      some_answer (ReadsStart arch file input) (RunsArray ran input.name) (start_reading arch file input) (λ s is. (run_by_size s.0.0 input.name s.1 (ran s.0.0 s.0.1 s.1), refl))

  -- what was read where it is done
  pub array_left : (L : Type 0) (o : Outcome) → o.status ≡ Done
      → ((s : (Arch × Config) × Image) → ReadsStart arch file input (Ok s) → length s.1.memory ≤ s.0.0.memory → o ≡ ran s.0.0 s.0.1 s.1 → L) → IsArrayCommand ran arch file input o → L
  array_left L o done each p =
      left_answer (ReadsStart arch file input) (RunsArray ran input.name) (start_reading arch file input) L o
      (λ s is e. let r = ran_by_size s.0.0 input.name s.1 (ran s.0.0 s.0.1 s.1) o e done in each s is r.0 r.1) p (not_done o done)

-- ---- from what the program reads

module _ (ran : Arch → Config → Image → Outcome) (A : Arch) (C : Config) (input : File) (s : Stop) (r : Result OutcomeValue Stop) (stops : IsErrAnd r (λ e. e ≡ s)) where
  pub image_stopped : EndsBy (RefusesImage input) s → Allows (ReadThen (ReadsImage input) (RunsFrom ran input.name A C)) r
  image_stopped refused = stopped (ReadThen (ReadsImage input) (RunsFrom ran input.name A C)) s r stops (refused_answer (ReadsImage input) (RunsFrom ran input.name A C) s (image_told input s refused))

  pub size_stopped : (image : Image) → images.answer_of input.bytes ≡ Ok image → EndsBy (λ o. (A.memory < length image.memory) × (o ≡ too_large input.name image)) s
      → Allows (ReadThen (ReadsImage input) (RunsFrom ran input.name A C)) r
  size_stopped image is large =
      stopped (ReadThen (ReadsImage input) (RunsFrom ran input.name A C)) s r stops
      (given_stop (ReadsImage input) (RunsFrom ran input.name A C) image s is
      (ends_weaker (λ o. (A.memory < length image.memory) × (o ≡ too_large input.name image)) (RunsFrom ran input.name A C image) s
      (λ o h. h.1 ∙ sym (run_too_large A input.name image (ran A C image) h.0)) large))

-- ---- `run`

pub sound_run : (n : ℕ) (arch file input : File) (out : Name) (o : Outcome) → IsRun n arch file input out o → IsSound plain o
sound_run n arch file input out o p = sound_array (ran n out) arch file input (λ A C image. record { own = refl; quiet = λ h. cc }) o p

pub accepted_run : (n : ℕ) (arch file input : File) (out : Name) (o : Outcome) → IsRunnable arch file input → IsRun n arch file input out o → o.status ≡ Done
accepted_run n arch file input out o a p = accepted_array (ran n out) arch file input (λ A C image. refl) o a p

pub named_run : (n : ℕ) (arch file input : File) (out : Name) (o : Outcome) → IsRun n arch file input out o → IsNamed (out ∷ []) o
named_run n arch file input out o p = named_array (ran n out) arch file input (out ∷ []) (λ A C image. inl refl) o p

pub same_run : (n : ℕ) (arch file input : File) (out : Name) (a b : Outcome) → IsRun n arch file input out a → IsRun n arch file input out b → a.status ≡ b.status
same_run n arch file input out a b p q = same_array_command (ran n out) arch file input a b p q

pub some_run : (n : ℕ) (arch file input : File) (out : Name) → (o : Outcome) × IsRun n arch file input out o
some_run n arch file input out = some_array_command (ran n out) arch file input

pub run_left : (n : ℕ) (arch file input out : Name) (f g h : File) (o : Outcome) (before after : Moment)
    → Holds before.held arch f.bytes → Holds before.held file g.bytes → IsBytes g.bytes → Holds before.held input h.bytes → IsRun n f g h out o → o.status ≡ Done
    → Completed o before after Done → IsArrayRun n arch file input out before after
run_left n arch file input out f g h o before after arch_held held bytes image_held p done c =
    array_left (ran n out) f g h (IsArrayRun n arch file input out before after) o done
    (λ s is fits e. record {
      read = hold_start arch file input f g h before arch_held held bytes image_held s is fits;
      written = one_write before.held after.held out (images.image_bytes (machine_left s.0.0 s.0.1 n s.1).image) (subst (λ fs. Wrote before.held fs after.held) (ap (λ x. x.writes) e) c.held);
      put = subst (λ report. Appends before.taken report after.taken) (ap (λ x. x.report) e) (whole o.status o.report before after done c.put);
      turns = leaves_turns s.0.0 n s.1 s.0.1 g.bytes (valid_array f.bytes s.0.0 is.0.0) is.0.1;
    })
    p
