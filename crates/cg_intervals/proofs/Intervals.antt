-- The intervals that are tried are open, and an open interval has a unit for each operation.
use Rattle.std.proofs.Common.{◌≡◌, ℕ, zero, suc, ◌+◌, ◌<◌, ◌≤◌, List, [], ◌∷◌, length, Bool, true, false, cond, Option, Some, None, refl, sym, ap, ◌∙◌, subst, arith, inl, inr, ⊎_elim}
use Rattle.std.specs.Prelude.{filter}
use Rattle.std.specs.List.{range_with_len}
use Rattle.std.proofs.lemmas.Bool.{cases_lt}
use Rattle.cg_word.specs.declared.op.Op.{Op}
use Rattle.cg_word.specs.Sets.{among}
use Rattle.cg_model.specs.Kernel.{Kernel, node}
use Rattle.cg_model.specs.Array.{Arch, IsArch, unit}
use Rattle.cg_bound.specs.declared.interval.Certificate.{Certificate}
use Rattle.cg_bound.specs.declared.interval.Certificate.TheVariants.{Cycle, Class}
use Rattle.cg_bound.specs.Bound.{IsForbidden, IsOpen, AllOffered, IsBoundBy, Certifies, Shows}
use Rattle.cg_bound.proofs.Intervals.{one_mii, exactly_below, certifies}
use Rattle.cg_bound.proofs.Offers.{unit_for, never_open}
use Rattle.cg_place.specs.Placed.{IsOffered}
use Rattle.cg_intervals.specs.Intervals.{IsAsked, last_tried, IsFirst}

-- nothing forbids an open interval
pub not_both : (A : Arch) (K : Kernel) (ii : ℕ) → IsOpen A K ii → IsForbidden A K ii → ⊥
not_both A K ii free f = ⊎_elim (λ (ids, c). free.no_recurrence ids c) (λ (set, o). free.no_overfull set o) f

open_of : (A : Arch) (K : Kernel) (ii : ℕ) → (IsForbidden A K ii → ⊥) → IsOpen A K ii
open_of A K ii h = record { no_recurrence = λ ids c. h (inl (ids, c)); no_overfull = λ set o. h (inr (set, o)) }

certified : (A : Arch) (K : Kernel) (ii : ℕ) (c : Certificate) → Certifies A K ii c → IsForbidden A K ii
certified A K ii (Cycle ids) h = inl (ids.items, h)
certified A K ii (Class set) h = inr (set, h.0)

-- what is shown forbids the interval
pub shown_forbids : (A : Arch) (K : Kernel) (ii : ℕ) (c : Certificate) → Shows A K ii c → IsForbidden A K ii
shown_forbids A K ii c shown = certified A K ii c (certifies A K ii c shown)

module _ (A : Arch) (K : Kernel) where
  -- an interval from the first one up to the last one is open
  pub open_from : (asked : Option ℕ) (first ii : ℕ) → IsOpen A K (last_tried A asked) → IsFirst A K asked first → first ≤ ii → ii ≤ last_tried A asked → IsOpen A K ii
  open_from None first ii free is l h =
      open_of A K ii (λ f. let p = is.positive in let some : 1 ≤ ii = omega (arith, p, l) in let below = (exactly_below A K first ii is some).0 f in absurd (omega (arith, below, l)))
  open_from (Some n) first ii free is l h = let same : n ≡ ii = omega (arith, is, l, h) in subst (IsOpen A K) same free

  -- there is one first interval
  pub one_first : (asked : Option ℕ) (a b : ℕ) → IsFirst A K asked a → IsFirst A K asked b → a ≡ b
  one_first None a b p q = one_mii A K a b p q
  one_first (Some n) a b p q = p ∙ sym q

  pub last_positive : (asked : Option ℕ) → IsArch A → IsAsked A asked → (0 < last_tried A asked) × (last_tried A asked ≤ A.contexts)
  last_positive None arch is = (arch.small.contexts.0, omega arith)
  last_positive (Some n) arch is = is

  -- it isn't after the last one
  pub first_within : (asked : Option ℕ) (first : ℕ) → IsArch A → IsAsked A asked → IsOpen A K (last_tried A asked) → IsFirst A K asked first → (0 < first) × (first ≤ last_tried A asked)
  first_within None first arch is free least = (
    least.positive,
    ⊎_elim (λ after. absurd (not_both A K A.contexts free (least.below A.contexts (last_positive None arch is).0 after))) (λ before. before) (cases_lt A.contexts first),
  )
  first_within (Some n) first arch is free same = (subst (λ z. 0 < z) (sym same) is.0, omega (arith, same))

  -- where an interval is open, each operation is offered, so there is a least one
  pub never_unbounded : (below : Option Certificate) (ii : ℕ) → IsBoundBy A K None below → IsOpen A K ii → ⊥
  never_unbounded (Some c) ii b free = not_both A K ii free (shown_forbids A K ii c (inl b))
  never_unbounded None ii b free = b

  -- each operation is offered where some interval is open
  pub all_offered : (ii : ℕ) → IsOpen A K ii → AllOffered A K
  all_offered ii free op u = free.no_overfull (op ∷ []) (never_open A K op u ii)

  some_of : (b : Bool) (x : ℕ) (xs : List ℕ) → (b ≡ false → 0 < length xs) → 0 < length (cond b (x ∷ xs) xs)
  some_of true x xs h = omega arith
  some_of false x xs h = h refl

  filter_some : (p : ℕ → Bool) (first n x : ℕ) → first ≤ x → x < first + n → p x ≡ true → 0 < length (filter p (range_with_len first n))
  filter_some p first zero x l h t = absurd (omega (arith, l, h))
  filter_some p first (suc n) x l h t =
      some_of (p first) first (filter p (range_with_len (first + 1) n))
      (λ e.
      filter_some p (first + 1) n x
      (⊎_elim (λ more. omega (arith, more)) (λ same. absurd (let z : first ≡ x = omega (arith, same, l) in let bad : false ≡ true = sym e ∙ ap p z ∙ t in cc)) (cases_lt first x))
      (omega (arith, h)) t)

  pub offered : (ii : ℕ) → IsOpen A K ii → IsOffered A K
  offered ii free v l =
      let (x, m, e) = unit_for A K (all_offered ii free) v l in
      filter_some (λ y. among (unit A y).ops (node K v).op) 0 (length A.units) x (omega arith) (omega (arith, m)) e
