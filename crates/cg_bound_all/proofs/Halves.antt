-- The least interval that no reason of a kind excludes, by halves.
use Rattle.std.proofs.Common.{◌≡◌, ℕ, ◌+◌, ◌-◌, ◌<◌, ◌≤◌, Option, Some, None, subst, arith, ⊎_elim}
use Rattle.std.proofs.lemmas.Bool.{cases_lt}
use Rattle.cg_model.specs.Kernel.{Kernel}
use Rattle.cg_model.specs.Array.{Arch}
use Rattle.cg_bound_registers.specs.Sums.{table}
use Rattle.cg_bound_all.specs.declared.reason.Kind.{Kind}
use Rattle.cg_bound_all.specs.declared.reason.Reason.{Reason}
use Rattle.cg_bound_all.specs.declared.numbers.Numbers.{Numbers}
use Rattle.cg_bound_all.specs.declared.numbers.HopTables.{HopTables}
use Rattle.cg_bound_all.specs.Why.{hops_at, numbers_at, kind_of, AreAllNumbers, Shows, IsExcluded, Excludes, IsShown, IsBound}
use Rattle.cg_bound_all.specs.Scan.{IsFound, IsBoundTo, IsBetween, IsClosing}
use Rattle.cg_bound_all.proofs.Reasons.{shown}
use Rattle.cg_bound_all.proofs.Fades.{lower}

module _ (A : Arch) (K : Kernel) (f : HopTables) (kind : Kind) where
  abbrev Excluded : ℕ → Type 0
  Excluded ii = Excludes A K f kind ii

  -- what is found of an interval, by the numbers for it
  found_at : (ii : ℕ) (n : Numbers) (found o : Option Reason) → n ≡ numbers_at f ii → found ≡ o → IsFound A K (table n.hops.items) ii kind found → IsFound A K (hops_at f ii) ii kind o
  found_at ii n found o e is h = subst (λ z. IsFound A K (table z.hops.items) ii kind o) e (subst (IsFound A K (table n.hops.items) ii kind) is h)

  pub free_at : (ii : ℕ) (n : Numbers) (found : Option Reason) → n ≡ numbers_at f ii → found ≡ None → IsFound A K (table n.hops.items) ii kind found → Excluded ii → ⊥
  free_at ii n found e is h = found_at ii n found None e is h

  pub shown_at : (ii : ℕ) (n : Numbers) (found : Option Reason) (r : Reason) → n ≡ numbers_at f ii → found ≡ Some r → IsFound A K (table n.hops.items) ii kind found → IsShown A K f kind ii (Some r)
  shown_at ii n found r e is h = found_at ii n found (Some r) e is h

  pub bound_of_1 : (n : Numbers) (found : Option Reason) → n ≡ numbers_at f 1 → found ≡ None → IsFound A K (table n.hops.items) 1 kind found → 1 ≤ A.contexts → IsBound A K f (record { kind = kind; least = Some 1; below = None })
  bound_of_1 n found e is h l = record { least = (omega arith, l, found_at 1 n found None e is h, λ i a b. absurd (omega arith)); below = omega arith }

  excluded_by : (ii : ℕ) (r : Reason) → IsShown A K f kind ii (Some r) → Excluded ii
  excluded_by ii r (h, e) = subst (λ k. IsExcluded A K (hops_at f ii) ii k) e (shown A K (hops_at f ii) ii r h)

  pub first_to : (r : Reason) → IsShown A K f kind 1 (Some r) → IsBoundTo A K f kind 2 (Some r)
  first_to r one = record { excluded = λ i l m. let e : 1 ≡ i = omega arith in subst Excluded e (excluded_by 1 r one); shown = one }

  pub between_begins : (r : Reason) (high : ℕ) → IsShown A K f kind 1 (Some r) → (Excluded high → ⊥) → 1 ≤ high → high ≤ A.contexts → IsBetween A K f kind 1 high (Some r)
  between_begins r high one free some within =
      record {
        some = omega arith;
        apart = ⊎_elim {C = 1 < high} (λ l. l) (λ (l : high ≤ 1). let e : 1 ≡ high = omega arith in absurd (free (subst Excluded e (excluded_by 1 r one)))) (cases_lt 1 high);
        within = within;
        free = free;
        to = first_to r one;
      }

  -- where interval 1 is excluded, and each from 2 on
  pub bound_of_all : (most : ℕ) (n : Numbers) (found : Option Reason) (r last : Reason) → most ≡ A.contexts → n ≡ numbers_at f most → found ≡ Some last → IsFound A K (table n.hops.items) most kind found → IsShown A K f kind 1 (Some r) →
      ((ii : ℕ) → 2 ≤ ii → ii ≤ most → Excludes A K f (kind_of last) ii) → IsBound A K f (record { kind = kind; least = None; below = Some last })
  bound_of_all most n found r last m e is h one all =
      let here : IsShown A K f kind most (Some last) = found_at most n found (Some last) e is h in
      record { least = each here; below = subst (λ z. IsShown A K f kind z (Some last)) m here }
    where
      each : IsShown A K f kind most (Some last) → (ii : ℕ) → 1 ≤ ii → ii ≤ A.contexts → Excluded ii
      each here ii l k =
          ⊎_elim {C = Excluded ii} (λ (x : ii < 2). let e : 1 ≡ ii = omega arith in subst Excluded e (excluded_by 1 r one))
          (λ (x : 2 ≤ ii). subst (λ z. Excludes A K f z ii) here.1 (all ii x (omega arith))) (cases_lt ii 2)

  module _ (low high : ℕ) (below : Option Reason) (h : IsBetween A K f kind low high below) (middle : ℕ) (above : low < middle) (under : middle < high) (all : AreAllNumbers A K f) where
    to_middle : Excluded middle → (i : ℕ) → 1 ≤ i → i < middle + 1 → Excluded i
    to_middle here i l m =
        ⊎_elim {C = Excluded i} (λ (k : i < low + 1). h.to.excluded i l k) (λ (k : low + 1 ≤ i). let s = h.some in lower A K f kind i middle high all (omega arith) (omega arith) under h.free here) (cases_lt i (low + 1))

    pub raised : (n : Numbers) (found : Option Reason) (r : Reason) → n ≡ numbers_at f middle → found ≡ Some r → IsFound A K (table n.hops.items) middle kind found → IsBetween A K f kind middle high (Some r)
    raised n found r e is found_h =
        let here : IsShown A K f kind middle (Some r) = found_at middle n found (Some r) e is found_h in
        let same : middle ≡ middle + 1 - 1 = omega arith in
        let s = h.some in
        record {
          some = omega arith;
          apart = under;
          within = h.within;
          free = h.free;
          to = record { excluded = to_middle (excluded_by middle r here); shown = subst (λ z. IsShown A K f kind z (Some r)) same here };
        }

    pub lowered : (n : Numbers) (found : Option Reason) → n ≡ numbers_at f middle → found ≡ None → IsFound A K (table n.hops.items) middle kind found → IsBetween A K f kind low middle below
    lowered n found e is found_h =
        let w = h.within in
        record { some = h.some; apart = above; within = omega arith; free = found_at middle n found None e is found_h; to = h.to }

  pub between_ends : (low high : ℕ) (below : Option Reason) → IsBetween A K f kind low high below → high ≤ low + 1 → IsBound A K f (record { kind = kind; least = Some high; below = below })
  between_ends low high below h l =
      let a = h.apart in
      let s = h.some in
      let same : low + 1 - 1 ≡ high - 1 = omega arith in
      record { least = (omega arith, h.within, h.free, λ i k m. h.to.excluded i k (omega arith)); below = subst (λ z. IsShown A K f kind z below) same h.to.shown }

  -- ---- where 1 and the greatest interval are excluded

  pub closing_begins : (most : ℕ) (first last : Reason) → most ≡ A.contexts → IsShown A K f kind 1 (Some first) → IsShown A K f kind A.contexts (Some last) → 2 ≤ A.contexts → IsClosing A K f kind 1 most first last
  closing_begins most first last e one greatest two =
      record {
        some = omega arith;
        apart = omega arith;
        within = omega arith;
        to = first_to first one;
        from = λ i l m. let e : A.contexts ≡ i = omega arith in subst (λ z. IsShown A K f kind z (Some last)) e greatest;
      }

  module _ (low high : ℕ) (below above : Reason) (h : IsClosing A K f kind low high below above) where
    module _ (middle : ℕ) (over : low < middle) (under : middle < high) (n : Numbers) (found : Option Reason) (e : n ≡ numbers_at f middle) (found_h : IsFound A K (table n.hops.items) middle kind found) where
      pub closing_raised : (r : Reason) → found ≡ Some r → ((i : ℕ) → 2 ≤ i → i ≤ middle → Excludes A K f (kind_of r) i) → IsClosing A K f kind middle high r above
      closing_raised r is all =
          let here : IsShown A K f kind middle (Some r) = found_at middle n found (Some r) e is found_h in
          let same : middle ≡ middle + 1 - 1 = omega arith in
          let s = h.some in
          record {
            some = omega arith;
            apart = under;
            within = h.within;
            to = record { excluded = to_middle here; shown = subst (λ z. IsShown A K f kind z (Some r)) same here };
            from = h.from;
          }
        where
          to_middle : IsShown A K f kind middle (Some r) → (i : ℕ) → 1 ≤ i → i < middle + 1 → Excluded i
          to_middle here i l m =
              ⊎_elim {C = Excluded i} (λ (k : i < low + 1). h.to.excluded i l k)
              (λ (k : low + 1 ≤ i). let s = h.some in subst (λ z. Excludes A K f z i) here.1 (all i (omega arith) (omega arith))) (cases_lt i (low + 1))

      pub closing_lowered : (r : Reason) → found ≡ Some r → ((i : ℕ) → middle ≤ i → Shows A K (hops_at f i) i r) → IsClosing A K f kind low middle below r
      closing_lowered r is all =
          let here : IsShown A K f kind middle (Some r) = found_at middle n found (Some r) e is found_h in
          let w = h.within in
          record { some = h.some; apart = over; within = omega arith; to = h.to; from = λ i l m. (all i l, here.1) }

      pub closing_opened : found ≡ None → IsBetween A K f kind low middle (Some below)
      closing_opened is =
          let w = h.within in
          record { some = h.some; apart = over; within = omega arith; free = found_at middle n found None e is found_h; to = h.to }

    pub closing_ends : high ≤ low + 1 → IsBound A K f (record { kind = kind; least = None; below = Some above })
    closing_ends l =
        record {
          least = λ i k m. ⊎_elim {C = Excluded i} (λ (x : i < low + 1). h.to.excluded i k x) (λ (x : low + 1 ≤ i). excluded_by i above (h.from i (omega arith) m)) (cases_lt i (low + 1));
          below = h.from A.contexts h.within (omega arith);
        }
