-- The search by halves: what is known at its begin, after a step and at its end.
use Rattle.std.proofs.Common.{◌≡◌, ℕ, ◌+◌, ◌-◌, ◌<◌, ◌≤◌, List, Some, None, refl, sym, subst, arith, inr}
use Rattle.cg_word.specs.declared.op.Op.{Op}
use Rattle.cg_model.specs.Kernel.{Kernel, IsKernel}
use Rattle.cg_model.specs.Array.{Arch}
use Rattle.cg_recur.specs.Edges.{latency}
use Rattle.cg_class.specs.Class.{IsOverfull, AreOfNodes}
use Rattle.cg_bound.specs.declared.halves.Found.{Found}
use Rattle.cg_bound.specs.declared.interval.Certificate.{Certificate}
use Rattle.cg_bound.specs.declared.interval.Certificate.TheVariants.{Class}
use Rattle.cg_bound.specs.Bound.{AllOffered, HasNoRecurrence, HasNoOverfull, ShowsForbidden, Shows, IsShownBelow}
use Rattle.cg_bound.specs.Search.{limit, IsBetween, IsAbove, IsLeastFree, IsLeastOpen}
use Rattle.cg_bound.proofs.Intervals.{free_above, mii_from, free_at, none_overfull_at, overfull_early}

module _ (A : Arch) (K : Kernel) (all : AllOffered A K) where
  -- what is shown at l is shown below l + 1
  shown_after : (l : ℕ) (c : Certificate) → 0 < l → ShowsForbidden A K l c → IsShownBelow A K (l + 1) (Some c)
  shown_after l c p s = let e : l ≡ l + 1 - 1 = omega arith in (omega arith, subst (λ z. Shows A K z c) e (inr (all, s)))

  -- ---- without a recurrence

  pub between_all : IsKernel K → ((op : Op) → latency A op ≤ 4) → (high : ℕ) → high ≡ limit K → IsBetween A K 0 high None
  between_all good small high e =
      subst (λ z. IsBetween A K 0 z None) (sym e)
      (record { order = omega arith; within = omega arith; shown = refl; free = free_at A K good small all (limit K) (omega arith) })

  -- ---- from there on

  pub open_found : (found : Found) → IsLeastFree A K found → HasNoOverfull A K found.interval → IsLeastOpen A K found
  open_found found f none = (mii_from A K found.interval found.below f.some (record { no_recurrence = f.free; no_overfull = none }) f.shown, f.shown)

  pub above_all : (low high : ℕ) (set : List Op) → high ≡ limit K → 1 ≤ low → HasNoRecurrence A K low → IsOverfull A K low set → AreOfNodes K set → IsAbove A K low high set
  above_all low high set e p free over own =
      let l = overfull_early A K all low set over in
      subst (λ z. IsAbove A K low z set) (sym e)
      (record { some = p; order = omega arith; within = omega arith; free = free; overfull = (over, own); none = none_overfull_at A K all (limit K) (omega arith) })

  pub above_done : (low high : ℕ) (set : List Op) (c : Certificate) → c ≡ Class set → IsAbove A K low high set → high ≤ low + 1 → IsLeastOpen A K (record { interval = high; below = Some c })
  above_done low high set c is a h =
      let o = a.order in
      let p = a.some in
      let e : low + 1 ≡ high = omega arith in
      let s : ShowsForbidden A K low c = subst (ShowsForbidden A K low) (sym is) (a.free, a.overfull.0, a.overfull.1) in
      let shown = subst (λ z. IsShownBelow A K z (Some c)) e (shown_after low c (omega arith) s) in
      (mii_from A K high (Some c) (omega arith) (record { no_recurrence = free_above A K low high (omega arith) a.free; no_overfull = a.none }) shown, shown)
