-- All answers of a search are of one kind where a certificate is among them, and some may come.
use Rattle.std.proofs.Common.{ℕ, ◌^◌, ◌<◌, List, length, Option, Some, None, refl, arith}
use Rattle.std.specs.Global.{Vec}
use denote.RawPtr.{null_ptr}
use Rattle.cg_model.specs.Kernel.{Kernel, IsKernel}
use Rattle.cg_model.specs.Array.{Arch, IsArch}
use Rattle.cg_bound.specs.declared.interval.Certificate.{Certificate}
use Rattle.cg_bound.specs.declared.interval.IntervalVerdict.{IntervalVerdict}
use Rattle.cg_bound.specs.declared.interval.IntervalVerdict.TheVariants as verdict
use Rattle.cg_bound.specs.Bound.{IsOpen, IsVerdict, IsBoundBy, Shows}
use Rattle.cg_bound.proofs.Always.{some_bound, some_verdict}
use Rattle.cg_intervals.specs.declared.answering.Answer.{Answer}
use Rattle.cg_intervals.specs.declared.answering.Answer.TheVariants.{Impossible, Mapped, Unmapped}
use Rattle.cg_intervals.specs.Intervals.{last_tried, IsFirst}
use Rattle.cg_intervals.specs.Answers.{IsSearched, IsAnswer}
use Rattle.cg_intervals.proofs.Intervals.{never_unbounded, not_both, shown_forbids}

-- a list as a value of the program: where it would stand in memory is no matter of what is said of it
abbrev pub held : {X : Type 0} (left : List X) → length left < 2 ^ 60 → Vec X
held left l = record { ptr = null_ptr; len = length left; cap = length left; alloc = record { memory = record { seal = tt } }; items = left; ok = (refl, omega arith); small = omega (arith, l) }

-- why the last interval is impossible is answered
abbrev pub IsCertified : {L : Type 0} → Answer L → Type 0
IsCertified (Impossible certificate) = Unit {0}
IsCertified (Mapped m found_by) = ⊥
IsCertified (Unmapped left) = ⊥

module _ {L : Type 0} (A : Arch) (K : Kernel) (asked : Option ℕ) (Comes : ℕ → Answer L → Type 0) where
  -- an interval that is searched isn't impossible
  pub not_impossible : (a : Answer L) → IsSearched A K asked Comes a → (c : Certificate) → Shows A K (last_tried A asked) c → ⊥
  not_impossible a p c q = not_both A K (last_tried A asked) p.free (shown_forbids A K (last_tried A asked) c q)

  -- either all answers say that the last interval is impossible, or none does
  pub certified_alike : (a b : Answer L) → IsAnswer A K asked Comes a → IsAnswer A K asked Comes b → IsCertified a → IsCertified b
  certified_alike (Impossible c) (Impossible d) p q is = tt
  certified_alike (Impossible c) (Mapped m found_by) p q is = absurd (not_impossible (Mapped m found_by) q c p)
  certified_alike (Impossible c) (Unmapped left) p q is = absurd (not_impossible (Unmapped left) q c p)
  certified_alike (Mapped m found_by) b p q is = absurd is
  certified_alike (Unmapped left) b p q is = absurd is

  module _ (arch : IsArch A) (kernel : IsKernel K) where
    first_of : (o : Option ℕ) (below : Option Certificate) → IsBoundBy A K o below → IsOpen A K A.contexts → (m : ℕ) × IsFirst A K None m
    first_of (Some m) below (all, mii, shown) free = (m, mii)
    first_of None below b free = absurd (never_unbounded A K below A.contexts b free)

    some_first : (o : Option ℕ) → IsOpen A K (last_tried A o) → (m : ℕ) × IsFirst A K o m
    some_first None free = let (b, is_bound) = some_bound A K arch kernel in first_of b.mii b.below is_bound free
    some_first (Some n) free = (n, refl)

    -- there is an answer where one comes of each first interval
    module _ (on : (first : ℕ) → IsOpen A K (last_tried A asked) → IsFirst A K asked first → (a : Answer L) × IsAnswer A K asked Comes a) where
      by_verdict : (v : IntervalVerdict) → IsVerdict A K (last_tried A asked) v → (a : Answer L) × IsAnswer A K asked Comes a
      by_verdict (verdict.Impossible c) shown = (Impossible c, shown)
      by_verdict verdict.Allowed free = let (first, is_first) = some_first asked free in on first free is_first

      pub some_answer : (a : Answer L) × IsAnswer A K asked Comes a
      some_answer = let (v, is_verdict) = some_verdict A K (last_tried A asked) arch kernel in by_verdict v is_verdict
