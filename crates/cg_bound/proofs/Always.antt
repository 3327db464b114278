-- For each valid kernel and architecture there is a least interval with what is shown below it, or an operation that no
-- unit offers: by definitions alone.
use Rattle.std.proofs.Common.{◌≡◌, ℕ, zero, suc, ◌+◌, ◌-◌, ◌*◌, ◌^◌, ◌<◌, ◌≤◌, List, [], ◌∷◌, length, find, Option, Some, None, refl, subst, arith, inl, inr, ⊎_elim}
use Rattle.std.specs.Prelude.{◌⊎◌, MatchOption}
use Rattle.std.specs.Global.{Vec}
use denote.RawPtr.{null_ptr}
use Rattle.cg_word.specs.declared.op.Op.{Op}
use Rattle.cg_word.specs.Word.{all_ops}
use Rattle.cg_model.specs.Kernel.{Kernel, IsKernel, size}
use Rattle.cg_model.specs.Array.{Arch, IsArch}
use Rattle.cg_recur.specs.declared.edge.EdgeId.{EdgeId}
use Rattle.cg_recur.specs.Edges.{latency}
use Rattle.cg_recur.proofs.Latencies.{latency_small}
use Rattle.cg_recur.proofs.Decided.{recurrence_or_none, shown_short}
use Rattle.cg_class.proofs.Subsets.{overfull_or_none}
use Rattle.cg_bound.specs.declared.interval.Certificate.{Certificate}
use Rattle.cg_bound.specs.declared.interval.Certificate.TheVariants.{Cycle, Class}
use Rattle.cg_bound.specs.declared.interval.LeastInterval.{LeastInterval}
use Rattle.cg_bound.specs.declared.interval.IntervalVerdict.{IntervalVerdict}
use Rattle.cg_bound.specs.declared.interval.IntervalVerdict.TheVariants.{Impossible, Allowed}
use Rattle.cg_bound.specs.Bound.{IsOpen, IsMii, IsFirstUnoffered, AllOffered, ShowsForbidden, Shows, IsShownBelow, IsVerdict, IsBound}
use Rattle.cg_bound.specs.Search.{limit, is_unoffered}
use Rattle.cg_bound.proofs.Offers.{first_found}
use Rattle.cg_bound.proofs.Intervals.{mii_from, free_at, none_overfull_at}

-- a list as a value of the program: where it would stand in memory is no matter of what is said of it
abbrev held : (ids : List EdgeId) → length ids < 2 ^ 63 → Vec EdgeId
held ids l = record { ptr = null_ptr; len = length ids; cap = length ids; alloc = record { memory = record { seal = tt } }; items = ids; ok = (refl, omega arith); small = l }

module _ (A : Arch) (K : Kernel) (small : (op : Op) → latency A op ≤ 4) (valid : IsKernel K) where
  -- where each operation is offered, an interval is forbidden, which is shown, or open
  forbidden_or_open : (ii : ℕ) → ((c : Certificate) × ShowsForbidden A K ii c) ⊎ IsOpen A K ii
  forbidden_or_open ii =
      ⊎_elim
      (λ (ids, c, shown). inl (Cycle (held ids (let a = shown_short A K small valid ii ids c shown in let b = valid.few in omega arith)), (c, shown)))
      (λ none.
      ⊎_elim
      (λ (set, over, own). inl (Class set, (none, over, own)))
      (λ room. inr (record { no_recurrence = none; no_overfull = room }))
      (overfull_or_none A K ii))
      (recurrence_or_none A K small valid ii)

  module _ (all : AllOffered A K) where
    abbrev HasLeast : Type 0
    HasLeast = (m : ℕ) × (below : Option Certificate) × IsMii A K m × IsShownBelow A K m below

    shown_next : (m : ℕ) (c : Certificate) → 1 ≤ m → ShowsForbidden A K m c → IsShownBelow A K (m + 1) (Some c)
    shown_next m c p s = let e : m ≡ m + 1 - 1 = omega arith in (omega arith, subst (λ z. Shows A K z c) e (inr (all, s)))

    -- up from m, below which nothing is open
    upwards : (fuel m : ℕ) (below : Option Certificate) → 1 ≤ m → m + fuel ≡ limit K → IsShownBelow A K m below → HasLeast
    upwards zero m below p e shown =
        let open_there : IsOpen A K m = record { no_recurrence = free_at A K valid small all m (omega arith); no_overfull = none_overfull_at A K all m (omega arith) } in
        (m, below, mii_from A K m below p open_there shown, shown)
    upwards (suc fuel) m below p e shown =
        ⊎_elim
        (λ (c, s). upwards fuel (m + 1) (Some c) (omega arith) (omega arith) (shown_next m c p s))
        (λ open_there. (m, below, mii_from A K m below p open_there shown, shown))
        (forbidden_or_open m)

    least : HasLeast
    least = upwards (4 * size K) 1 None (omega arith) (omega arith) refl

  bound_by : (o : Option Op) → MatchOption o (AllOffered A K) (IsFirstUnoffered A K) → (b : LeastInterval) × IsBound A K b
  bound_by None all = let (m, below, mii, shown) = least all in (record { mii = Some m; below = below }, (all, mii, shown))
  bound_by (Some op) first = (record { mii = None; below = Some (Class (op ∷ [])) }, (op, first, refl))

  verdict_by : (ii : ℕ) (o : Option Op) → MatchOption o (AllOffered A K) (IsFirstUnoffered A K) → (v : IntervalVerdict) × IsVerdict A K ii v
  verdict_by ii None all = ⊎_elim (λ (c, s). (Impossible c, inr (all, s))) (λ room. (Allowed, room)) (forbidden_or_open ii)
  verdict_by ii (Some op) first = (Impossible (Class (op ∷ [])), inl (op, first, refl))

pub some_bound : (A : Arch) (K : Kernel) → IsArch A → IsKernel K → (b : LeastInterval) × IsBound A K b
some_bound A K arch valid =
    bound_by A K (λ op. latency_small A op arch) valid (find (is_unoffered A.units K.nodes) all_ops) (first_found A K (find (is_unoffered A.units K.nodes) all_ops) refl)

pub some_verdict : (A : Arch) (K : Kernel) (ii : ℕ) → IsArch A → IsKernel K → (v : IntervalVerdict) × IsVerdict A K ii v
some_verdict A K ii arch valid =
    verdict_by A K (λ op. latency_small A op arch) valid ii (find (is_unoffered A.units K.nodes) all_ops) (first_found A K (find (is_unoffered A.units K.nodes) all_ops) refl)
