-- What `turns` answers for a kernel and an image.
use Rattle.std.proofs.Common.{◌≡◌, ℕ, [], ◌∷◌, Option, Some, None, Ok, refl, sym, ◌∙◌, ap, subst, inl}
use Rattle.cg_model.specs.Kernel.{Kernel}
use Rattle.cg_model.specs.Work.{Image}
use Rattle.cg_model.specs.Turns.{turns_left}
use Rattle.cg_model.specs.Order.{IsUnaliased}
use Rattle.cg_files.specs.Held.{Holds, Appends}
use Rattle.cg_effects.specs.declared.outcome.Status.{Status}
use Rattle.cg_effects.specs.declared.outcome.Status.TheVariants.{Done, No}
use Rattle.cg_effects.specs.Outcome.{Name, File, Outcome, names_of}
use Rattle.cg_effects.specs.Ends.{Moment, Completed, Wrote, IsPut}
use Rattle.cg_kernel.specs.Answer.{answer_of}
use Rattle.cg_kernel.proofs.Spelled.{spelled_valid}
use Rattle.cg_pad.specs.Bytes as images
use Rattle.cg_turns.specs.declared.pair.UnorderedPair.{UnorderedPair}
use Rattle.cg_turns.specs.Pairs.{IsPairOf}
use Rattle.cg_turns.proofs.Decided.{some_pair}
use Rattle.cg_inputs.specs.Readings.{ReadsImage, ReadsKernel}
use Rattle.cg_inputs.proofs.Sound.{IsSound, judging, IsNamed}
use Rattle.cg_inputs.proofs.Answered.{IsReading, sound_answer, named_answer, same_answer, done_answer, some_answer, left_answer, not_done, not_no}
use Rattle.cg_inputs.proofs.Both.{both_reading, only}
use Rattle.cg_inputs.proofs.Readings.{image_reading, kernel_reading}
use Rattle.cg_inputs.proofs.Wholes.{whole, one_write}
use Rattle.cg_command_run.specs.TurnsOnImage.{IsTurnsOnImage, IsImaged, IsImaging, IsRunOnImage, IsOrderedRun, IsUnorderedRun, ReadsTurns, imaged, pair_status}

turns_reading : (file input : File) → IsReading (ReadsTurns file input)
turns_reading file input = both_reading (ReadsKernel file) (λ K. ReadsImage input) (kernel_reading file) (λ K is. image_reading input)

-- ---- pairs

-- an unaliased run has no first pair
no_pair : (K : Kernel) (n : ℕ) (image : Image) (p : UnorderedPair) → IsUnaliased K n image → IsPairOf K n image (Some p) → ⊥
no_pair K n image p is q =
    let pair = q.first.pair in
    pair.unordered (is pair.conflict.word _ _ pair.conflict.within pair.conflict.earlier q.first.within pair.conflict.first pair.conflict.second pair.conflict.rival)

same_pair : (K : Kernel) (n : ℕ) (image : Image) (p q : Option UnorderedPair) → IsPairOf K n image p → IsPairOf K n image q → pair_status p ≡ pair_status q
same_pair K n image None None a b = refl
same_pair K n image None (Some q) a b = absurd (no_pair K n image q a b)
same_pair K n image (Some p) None a b = absurd (no_pair K n image p b a)
same_pair K n image (Some p) (Some q) a b = refl

accepted_pair : (K : Kernel) (n : ℕ) (image : Image) (p : Option UnorderedPair) → IsUnaliased K n image → IsPairOf K n image p → pair_status p ≡ Done
accepted_pair K n image None u q = refl
accepted_pair K n image (Some p) u q = absurd (no_pair K n image p u q)

sound_pair : (n : ℕ) (K : Kernel) (image : Image) (out : Name) (p : Option UnorderedPair) → IsSound judging (imaged n K image out p)
sound_pair n K image out None = record { own = refl; quiet = λ h. cc }
sound_pair n K image out (Some p) = record { own = refl; quiet = λ h. cc }

-- ---- what is answered

module _ (n : ℕ) (file input : File) (out : Name) where
  pub same_on_image : (a b : Outcome) → IsTurnsOnImage n file input out a → IsTurnsOnImage n file input out b → a.status ≡ b.status
  same_on_image a b p q =
      same_answer (ReadsTurns file input) (IsImaging n out) (turns_reading file input)
      (λ s a b x y. ap (λ o. o.status) x.outcome ∙ same_pair s.0 n s.1 x.pair y.pair x.first y.first ∙ sym (ap (λ o. o.status) y.outcome)) a b p q

  pub sound_on_image : (o : Outcome) → IsTurnsOnImage n file input out o → IsSound judging o
  sound_on_image o p =
      sound_answer (ReadsTurns file input) (IsImaging n out) (turns_reading file input) judging refl (λ s o x. subst (IsSound judging) (sym x.outcome) (sound_pair n s.0 s.1 out x.pair)) o p

  pub named_on_image : (o : Outcome) → IsTurnsOnImage n file input out o → IsNamed (out ∷ []) o
  named_on_image o p = named_answer (ReadsTurns file input) (IsImaging n out) (turns_reading file input) (out ∷ []) (λ s o x. inl (ap (λ y. names_of y.writes) x.outcome)) o p

  pub accepted_on_image : (K : Kernel) (image : Image) (o : Outcome) → answer_of file.bytes ≡ Ok K → images.answer_of input.bytes ≡ Ok image → IsUnaliased K n image → IsTurnsOnImage n file input out o → o.status ≡ Done
  accepted_on_image K image o k i u p =
      let is = only (ReadsTurns file input) (turns_reading file input) (K, image) (k, i) in
      let x : IsImaged n K image out o = done_answer (ReadsTurns file input) (IsImaging n out) (turns_reading file input) (K, image) is o p in
      ap (λ o. o.status) x.outcome ∙ accepted_pair K n image x.pair u x.first

  pub some_on_image : (o : Outcome) × IsTurnsOnImage n file input out o
  some_on_image =
      some_answer (ReadsTurns file input) (IsImaging n out) (turns_reading file input)
      (λ s is. let p = some_pair s.0 (spelled_valid file.bytes s.0 is.0) n s.1 in (imaged n s.0 s.1 out p.0, record { pair = p.0; first = p.1; outcome = refl }))

-- ---- what is left

module _ (n : ℕ) (file input out : Name) (f g : File) (o : Outcome) (before after : Moment) (held : Holds before.held file f.bytes) (other : Holds before.held input g.bytes) where
  abbrev run_by : (status : Status) (s : Kernel × Image) → ReadsTurns f g (Ok s) → (pair : Option UnorderedPair) → o ≡ imaged n s.0 s.1 out pair → Completed o before after status → IsRunOnImage n file input out before after
  run_by status s is pair e c = record {
    bytes = f.bytes;
    held = held;
    kernel = s.0;
    spelled = is.0;
    image_bytes = g.bytes;
    image_held = other;
    image = s.1;
    image_spelled = is.1;
    written = one_write before.held after.held out (images.image_bytes (turns_left s.0 n s.1).image) (subst (λ fs. Wrote before.held fs after.held) (ap (λ x. x.writes) e) c.held);
  }

  ordered_by : (s : Kernel × Image) → ReadsTurns f g (Ok s) → (pair : Option UnorderedPair) → IsPairOf s.0 n s.1 pair → o ≡ imaged n s.0 s.1 out pair → o.status ≡ Done → Completed o before after Done
      → IsOrderedRun n file input out before after
  ordered_by s is None first e done c = record {
    run = run_by Done s is None e c;
    unaliased = first;
    put = subst (λ report. Appends before.taken report after.taken) (ap (λ x. x.report) e) (whole o.status o.report before after done c.put);
  }
  ordered_by s is (Some p) first e done c = absurd (let z : No ≡ Done = sym (ap (λ x. x.status) e) ∙ done in cc)

  unordered_by : (s : Kernel × Image) → ReadsTurns f g (Ok s) → (pair : Option UnorderedPair) → IsPairOf s.0 n s.1 pair → o ≡ imaged n s.0 s.1 out pair → o.status ≡ No → Completed o before after No
      → IsUnorderedRun n file input out before after
  unordered_by s is None first e said c = absurd (let z : Done ≡ No = sym (ap (λ x. x.status) e) ∙ said in cc)
  unordered_by s is (Some p) first e said c = record {
    run = run_by No s is (Some p) e c;
    pair = p;
    first = first;
    put = subst (λ x. IsPut x.status x.report before after) e c.put;
  }

  pub ordered_left : IsTurnsOnImage n f g out o → o.status ≡ Done → Completed o before after Done → IsOrderedRun n file input out before after
  ordered_left p done c =
      left_answer (ReadsTurns f g) (IsImaging n out) (turns_reading f g) (IsOrderedRun n file input out before after) o
      (λ s is x. ordered_by s is x.pair x.first x.outcome done c) p (not_done o done)

  pub unordered_left : IsTurnsOnImage n f g out o → o.status ≡ No → Completed o before after No → IsUnorderedRun n file input out before after
  unordered_left p said c =
      left_answer (ReadsTurns f g) (IsImaging n out) (turns_reading f g) (IsUnorderedRun n file input out before after) o
      (λ s is x. unordered_by s is x.pair x.first x.outcome said c) p (not_no o said)
