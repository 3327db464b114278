-- What holds of a search over two files, where it holds of what comes of the pair that they give.
use Rattle.std.proofs.Common.{◌≡◌, Bool, true, false, List, [], Option, Some, None, Result, Ok, Err, refl, sym, ◌∙◌, ap, subst, inl, inr, arith}
use Rattle.std.specs.Prelude.{◌≤◌, ℕ, IfSome}
use Rattle.std.proofs.lemmas.Bool.{ltb-false}
use Rattle.cg_model.specs.Array.{Arch, IsArch}
use Rattle.cg_model.specs.Kernel.{Kernel, IsKernel}
use Rattle.cg_effects.specs.declared.outcome.Status.{Status}
use Rattle.cg_effects.specs.declared.outcome.Status.TheVariants.{Malformed}
use Rattle.cg_effects.specs.Outcome.{Name, File, Outcome}
use Rattle.cg_effects.specs.Ends.{Moment, Completed}
use Rattle.cg_intervals.specs.Intervals.{IsAsked}
use Rattle.cg_model.specs.declared.request.Request.{Request}
use Rattle.cg_model.specs.Request.{IsInRange}
use Rattle.cg_cause.specs.declared.stop.Stop.{Stop}
use Rattle.cg_cause.specs.Allowed.{EndsBy}
use Rattle.cg_cause.proofs.Allowed.{ends_weaker}
use Rattle.cg_tiles.specs.Answer.{AreValidBytes}
use Rattle.cg_kernel.specs.Answer as kernels
use Rattle.cg_inputs.specs.Refused.{RefusesArch, RefusesKernel}
use Rattle.cg_inputs.specs.Sources.{Pair, ArePaired, GivesPair}
use Rattle.cg_inputs.proofs.Sound.{IsSound, searching, IsNamed}
use Rattle.cg_inputs.proofs.Refusals.{IsRefusal, AreRefused, IsAlike, equal, refusals, sound_refusal}
use Rattle.cg_inputs.proofs.Paired.{pair_is, pair_reading, valid_pair}
use Rattle.cg_command_map.specs.Searches.{IsWithin, IsOverPair, IsSearchOver, is_above, above_contexts}

-- an interval that isn't above the contexts may be searched
pub asked : (s : Request) (A : Arch) → IsInRange s → is_above s.ii A ≡ false → IsAsked A s.ii
asked s A range within = by s.ii range.some within
  where
    by : (o : Option ℕ) → IfSome o (λ ii. 1 ≤ ii) → is_above o A ≡ false → IsAsked A o
    by None some e = tt
    by (Some ii) some e = (omega (arith, some), let l = ltb-false A.contexts ii e in omega (arith, l))

module _ (defines : Pair → Outcome → Type 0) (s : Request) (arch kernel : File) where
  -- ---- status and writes

  sound_within : ((p : Pair) (o : Outcome) → defines p o → IsSound searching o) → (p : Pair) (b : Bool) (o : Outcome) → IsWithin defines arch.name p b o → IsSound searching o
  sound_within each p true o e = subst (IsSound searching) (sym e) (record { own = refl; quiet = λ h. refl })
  sound_within each p false o e = each p o e

  sound_by : ((p : Pair) (o : Outcome) → defines p o → IsSound searching o) → (pair : Result Pair Outcome) (o : Outcome) → AreRefused pair → IsOverPair defines s.ii arch.name pair o → IsSound searching o
  sound_by each (Ok p) o r e = sound_within each p (is_above s.ii p.arch) o e
  sound_by each (Err x) o r e = subst (IsSound searching) (sym e) (sound_refusal searching x refl r)

  pub sound_over : ((p : Pair) (o : Outcome) → defines p o → IsSound searching o) → (o : Outcome) → IsSearchOver defines s arch kernel o → IsSound searching o
  sound_over each o e = sound_by each e.pair o ((pair_reading arch kernel).refused e.pair e.given) e.outcome

  named_within : (outs : List Name) → ((p : Pair) (o : Outcome) → defines p o → IsNamed outs o) → (p : Pair) (b : Bool) (o : Outcome) → IsWithin defines arch.name p b o → IsNamed outs o
  named_within outs each p true o e = inr (ap (λ x. x.writes) e)
  named_within outs each p false o e = each p o e

  named_by : (outs : List Name) → ((p : Pair) (o : Outcome) → defines p o → IsNamed outs o) → (pair : Result Pair Outcome) (o : Outcome) → AreRefused pair → IsOverPair defines s.ii arch.name pair o → IsNamed outs o
  named_by outs each (Ok p) o r e = named_within outs each p (is_above s.ii p.arch) o e
  named_by outs each (Err x) o r e = inr (ap (λ z. z.writes) e ∙ r.quiet)

  pub named_over : (outs : List Name) → ((p : Pair) (o : Outcome) → defines p o → IsNamed outs o) → (o : Outcome) → IsSearchOver defines s arch kernel o → IsNamed outs o
  named_over outs each o e = named_by outs each e.pair o ((pair_reading arch kernel).refused e.pair e.given) e.outcome

  -- ---- by the readers of both files

  module _ (range : IsInRange s) where
    -- the architecture's file is refused
    pub arch_refused : (stop : Stop) → EndsBy (RefusesArch arch) stop → EndsBy (IsSearchOver defines s arch kernel) stop
    arch_refused stop =
        ends_weaker (RefusesArch arch) (IsSearchOver defines s arch kernel) stop
        (λ o t. record {
          range = range;
          pair = Err o;
          given = inl (t.fault, (t.is_fault, t.no_memory), t.outcome);
          outcome = refl;
        })

    module _ (A : Arch) (valid : AreValidBytes arch.bytes A) where
      -- so is the kernel's
      pub kernel_refused : (stop : Stop) → EndsBy (RefusesKernel kernel) stop → EndsBy (IsSearchOver defines s arch kernel) stop
      kernel_refused stop =
          ends_weaker (RefusesKernel kernel) (IsSearchOver defines s arch kernel) stop
          (λ o t. record {
            range = range;
            pair = Err o;
            given = inr (A, valid, (t.fault, t.is_fault, t.outcome));
            outcome = refl;
          })

      -- both give something
      pub pair_given : (K : Kernel) → kernels.answer_of kernel.bytes ≡ Ok K → (o : Outcome) → IsWithin defines arch.name (record { arch = A; kernel = K }) (is_above s.ii A) o → IsSearchOver defines s arch kernel o
      pair_given K answer o within = record {
        range = range;
        pair = Ok (record { arch = A; kernel = K });
        given = record { arch_is = valid; kernel_is = answer };
        outcome = within;
      }

  -- ---- how two outcomes agree

  module _ (Agree : Status → Status → Type 0) (equals : (a b : Status) → a ≡ b → Agree a b)
      (each : (p : Pair) → IsArch p.arch → IsKernel p.kernel → IsInRange s → is_above s.ii p.arch ≡ false → (x y : Outcome) → defines p x → defines p y → Agree x.status y.status)
      (range : IsInRange s)
    where
      agree_within : (p : Pair) (b : Bool) → is_above s.ii p.arch ≡ b → IsArch p.arch → IsKernel p.kernel → (x y : Outcome) → IsWithin defines arch.name p b x → IsWithin defines arch.name p b y → Agree x.status y.status
      agree_within p true at valid good x y f g = equals x.status y.status (ap (λ z. z.status) (f ∙ sym g))
      agree_within p false at valid good x y f g = each p valid good range at x y f g

      agree_pair : (pair : Result Pair Outcome) (x y : Outcome) → ArePaired arch kernel pair → IsOverPair defines s.ii arch.name pair x → IsOverPair defines s.ii arch.name pair y → Agree x.status y.status
      agree_pair (Ok p) x y given f g =
          let (valid, good) = valid_pair arch.bytes kernel.bytes p given in
          agree_within p (is_above s.ii p.arch) refl valid good x y f g
      agree_pair (Err o) x y given f g = equals x.status y.status (ap (λ z. z.status) (f ∙ sym g))

      agree_by : (a b : Result Pair Outcome) (x y : Outcome) → ArePaired arch kernel b → AreRefused a → AreRefused b → IsAlike a b
          → IsOverPair defines s.ii arch.name a x → IsOverPair defines s.ii arch.name b y → Agree x.status y.status
      agree_by a b x y given r q (equal e) f g = agree_pair b x y given (subst (λ z. IsOverPair defines s.ii arch.name z x) e f) g
      agree_by a b x y given r q (refusals o t d e) f g =
          let first : IsRefusal o = subst AreRefused d r in
          let second : IsRefusal t = subst AreRefused e q in
          let mine : x ≡ o = subst (λ z. IsOverPair defines s.ii arch.name z x) d f in
          let other : y ≡ t = subst (λ z. IsOverPair defines s.ii arch.name z y) e g in
          equals x.status y.status (ap (λ z. z.status) mine ∙ first.status ∙ sym second.status ∙ sym (ap (λ z. z.status) other))

      pub agree_over : (x y : Outcome) → IsSearchOver defines s arch kernel x → IsSearchOver defines s arch kernel y → Agree x.status y.status
      agree_over x y f g =
          agree_by f.pair g.pair x y g.given ((pair_reading arch kernel).refused f.pair f.given) ((pair_reading arch kernel).refused g.pair g.given)
          ((pair_reading arch kernel).alike f.pair g.pair f.given g.given) f.outcome g.outcome

  -- ---- what is accepted

  given_within : (P : Outcome → Type 0) (p : Pair) → ((o : Outcome) → defines p o → P o) → (b : Bool) (o : Outcome) → b ≡ false → IsWithin defines arch.name p b o → P o
  given_within P p each true o e f = absurd (let z : true ≡ false = e in cc)
  given_within P p each false o e f = each o f

  -- what holds of each outcome that is defined for a pair holds where the files give that pair
  pub given_over : (P : Outcome → Type 0) (p : Pair) → GivesPair arch.bytes kernel.bytes p → is_above s.ii p.arch ≡ false
      → (IsArch p.arch → IsKernel p.kernel → IsAsked p.arch s.ii → (o : Outcome) → defines p o → P o)
      → (o : Outcome) → IsSearchOver defines s arch kernel o → P o
  given_over P p given within each o f =
      let (valid, good) = valid_pair arch.bytes kernel.bytes p given in
      given_within P p (each valid good (asked s p.arch f.range within)) (is_above s.ii p.arch) o within
      (subst (λ z. IsOverPair defines s.ii arch.name z o) (pair_is arch kernel p f.pair given f.given) f.outcome)

  -- ---- what there is

  some_within : ((p : Pair) → IsArch p.arch → IsKernel p.kernel → IsAsked p.arch s.ii → (o : Outcome) × defines p o)
      → (p : Pair) (b : Bool) → IsInRange s → IsArch p.arch → IsKernel p.kernel → is_above s.ii p.arch ≡ b → (o : Outcome) × IsWithin defines arch.name p b o
  some_within each p true range valid good e = (above_contexts arch.name p.arch, refl)
  some_within each p false range valid good e = each p valid good (asked s p.arch range e)

  some_by : ((p : Pair) → IsArch p.arch → IsKernel p.kernel → IsAsked p.arch s.ii → (o : Outcome) × defines p o)
      → (pair : Result Pair Outcome) → IsInRange s → ArePaired arch kernel pair → (o : Outcome) × IsOverPair defines s.ii arch.name pair o
  some_by each (Ok p) range given =
      let (valid, good) = valid_pair arch.bytes kernel.bytes p given in
      some_within each p (is_above s.ii p.arch) range valid good refl
  some_by each (Err e) range given = (e, refl)

  pub some_over : ((p : Pair) → IsArch p.arch → IsKernel p.kernel → IsAsked p.arch s.ii → (o : Outcome) × defines p o) → IsInRange s → (o : Outcome) × IsSearchOver defines s arch kernel o
  some_over each range =
      let (pair, given) = (pair_reading arch kernel).some in
      let (o, f) = some_by each pair range given in
      (o, record { range = range; pair = pair; given = given; outcome = f })

  -- ---- what is left

  left_within : {X : Type 0} (status : Status) (before after : Moment) → (status ≡ Malformed → ⊥)
      → ((p : Pair) → GivesPair arch.bytes kernel.bytes p → IsAsked p.arch s.ii → (o : Outcome) → defines p o → o.status ≡ status → Completed o before after status → X)
      → (p : Pair) (b : Bool) (o : Outcome) → is_above s.ii p.arch ≡ b → IsInRange s → GivesPair arch.bytes kernel.bytes p → IsWithin defines arch.name p b o → o.status ≡ status → Completed o before after status → X
  left_within status before after other each p true o e range given is at done = absurd (other (sym at ∙ ap (λ x. x.status) is))
  left_within status before after other each p false o e range given is at done = each p given (asked s p.arch range e) o is at done

  left_by : {X : Type 0} (status : Status) (before after : Moment) → (status ≡ Malformed → ⊥)
      → ((p : Pair) → GivesPair arch.bytes kernel.bytes p → IsAsked p.arch s.ii → (o : Outcome) → defines p o → o.status ≡ status → Completed o before after status → X)
      → (pair : Result Pair Outcome) (o : Outcome) → IsInRange s → ArePaired arch kernel pair → IsOverPair defines s.ii arch.name pair o → o.status ≡ status → Completed o before after status → X
  left_by status before after other each (Ok p) o range given is at done = left_within status before after other each p (is_above s.ii p.arch) o refl range given is at done
  left_by status before after other each (Err e) o range given is at done = absurd (let r = (pair_reading arch kernel).refused (Err e) given in other (sym at ∙ ap (λ x. x.status) is ∙ r.status))

  -- what is left at a status that no refusal of the files has
  pub left_over : {X : Type 0} (status : Status) (before after : Moment) → (status ≡ Malformed → ⊥)
      → ((p : Pair) → GivesPair arch.bytes kernel.bytes p → IsAsked p.arch s.ii → (o : Outcome) → defines p o → o.status ≡ status → Completed o before after status → X)
      → (o : Outcome) → IsSearchOver defines s arch kernel o → o.status ≡ status → Completed o before after status → X
  left_over status before after other each o is at done = left_by status before after other each is.pair o is.range is.given is.outcome at done

  -- ---- what is written

  made_within : (P : List File → Type 0) → P [] → (p : Pair) → (IsAsked p.arch s.ii → (o : Outcome) → defines p o → P o.writes) → (b : Bool) (o : Outcome) → is_above s.ii p.arch ≡ b → IsInRange s → IsWithin defines arch.name p b o → P o.writes
  made_within P none p each true o e range is = subst (λ x. P x.writes) (sym is) none
  made_within P none p each false o e range is = each (asked s p.arch range e) o is

  made_by : (P : List File → Type 0) → P [] → ((p : Pair) → GivesPair arch.bytes kernel.bytes p → IsAsked p.arch s.ii → (o : Outcome) → defines p o → P o.writes)
      → (pair : Result Pair Outcome) (o : Outcome) → IsInRange s → ArePaired arch kernel pair → IsOverPair defines s.ii arch.name pair o → P o.writes
  made_by P none each (Ok p) o range given is = made_within P none p (each p given) (is_above s.ii p.arch) o refl range is
  made_by P none each (Err e) o range given is = let r = (pair_reading arch kernel).refused (Err e) given in subst P (sym (ap (λ x. x.writes) is ∙ r.quiet)) none

  -- what holds of no writes and of those that are defined for each pair that the files may give
  pub made_over : (P : List File → Type 0) → P [] → ((p : Pair) → GivesPair arch.bytes kernel.bytes p → IsAsked p.arch s.ii → (o : Outcome) → defines p o → P o.writes)
      → (o : Outcome) → IsSearchOver defines s arch kernel o → P o.writes
  made_over P none each o is = made_by P none each is.pair o is.range is.given is.outcome
