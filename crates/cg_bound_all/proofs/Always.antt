-- For each kernel and valid architecture there is a least interval that no reason excludes, or none, with what excludes those
-- below it: by definitions alone.
use Rattle.std.proofs.Common.{◌≡◌, ℕ, zero, suc, ◌+◌, ◌-◌, ◌<◌, ◌≤◌, max, List, [], ◌∷◌, length, get_or, Contains, Option, Some, None, refl, subst, arith}
use Rattle.std.specs.Prelude.{unwrap_or}
use Rattle.std.proofs.lemmas.List.Elements.{Contains-get_or}
use Rattle.cg_model.specs.Kernel.{Kernel, IsKernel}
use Rattle.cg_model.specs.Array.{Arch, IsArch}
use Rattle.cg_model.proofs.Lookups.{Contains-nil}
use Rattle.cg_bound_registers.specs.Sums.{table}
use Rattle.cg_bound_all.specs.declared.reason.Kind.{Kind}
use Rattle.cg_bound_all.specs.declared.reason.Kind.TheVariants as kinds
use Rattle.cg_bound_all.specs.declared.reason.Reason.{Reason}
use Rattle.cg_bound_all.specs.declared.numbers.HopTables.{HopTables}
use Rattle.cg_bound_all.specs.declared.bounds.Bound.{Bound}
use Rattle.cg_bound_all.specs.declared.least.Least.{Least}
use Rattle.cg_bound_all.specs.declared.least.Verdict.{Verdict}
use Rattle.cg_bound_all.specs.declared.least.Verdict.TheVariants.{Excluded, Open}
use Rattle.cg_bound_all.specs.declared.why.Why.{Why}
use Rattle.cg_bound_all.specs.Why.{AreAllNumbers, numbers_at, IsBound, AreBounds, all_kinds, IsLeast, IsWhy}
use Rattle.cg_bound_all.specs.Scan.{IsFound, IsBoundTo, MayBeginAfter, IsLeastTo, IsVerdict}
use Rattle.cg_bound_all.proofs.Reasons.{numbers_for}
use Rattle.cg_bound_all.proofs.Scans.{bound_begins, bound_next, bound_found, bound_none, bound_pushed, begins, begin_next, above_all, least_begins, least_next, least_found, least_none}
use Rattle.cg_bound_all.proofs.Tables.{held, some_hops}
use Rattle.cg_bound_all.proofs.Exclusions.{some_reason, some_verdict}

module _ (A : Arch) (K : Kernel) (arch : IsArch A) (valid : IsKernel K) (f : HopTables) (all : AreAllNumbers A K f) where
  within : (ii : ℕ) → ii ≤ A.contexts → ii ≤ 64
  within ii l = let m = arch.small.contexts.1 in omega arith

  -- ---- the least interval of a kind

  module _ (kind : Kind) where
    abbrev HasBound : Type 0
    HasBound = (bound : Bound) × IsBound A K f bound × (bound.kind ≡ kind)

    bound_at : (ii : ℕ) (below : Option Reason) → 1 ≤ ii → ii ≤ A.contexts → IsBoundTo A K f kind ii below → ((r : Reason) → IsBoundTo A K f kind (ii + 1) (Some r) → HasBound) →
        (o : Option Reason) → IsFound A K (table (numbers_at f ii).hops.items) ii kind o → HasBound
    bound_at ii below l m to next None h = (record { kind = kind; least = Some ii; below = below }, bound_found A K f kind ii (numbers_at f ii) None below refl refl l m h to, refl)
    bound_at ii below l m to next (Some r) h = next r (bound_next A K f kind ii (numbers_at f ii) (Some r) r below refl refl h to)

    bound_from : (fuel ii : ℕ) (below : Option Reason) → 1 ≤ ii → ii + fuel ≡ A.contexts + 1 → IsBoundTo A K f kind ii below → HasBound
    bound_from zero ii below l e to = (record { kind = kind; least = None; below = below }, bound_none A K f kind ii below (omega arith) to, refl)
    bound_from (suc fuel) ii below l e to =
        let m : ii ≤ A.contexts = omega arith in
        let (o, h) = some_reason A K arch valid (numbers_at f ii) ii (numbers_for A K f ii l all) (within ii m) kind in
        bound_at ii below l m to (λ r next. bound_from fuel (ii + 1) (Some r) (omega arith) (omega arith) next) o h

    some_bound : HasBound
    some_bound = bound_from A.contexts 1 None (omega arith) (omega arith) (bound_begins A K f kind)

  none_bound : AreBounds A K f 0 []
  none_bound = record { each = refl; right = λ bound has. absurd (Contains-nil bound has) }

  some_bounds : (bounds : List Bound) × AreBounds A K f 4 bounds × (length bounds ≡ 4)
  some_bounds =
      let (a, bound_a, is_a) = some_bound kinds.Recurrence in
      let (b, bound_b, is_b) = some_bound kinds.Ways in
      let (c, bound_c, is_c) = some_bound kinds.Class in
      let (d, bound_d, is_d) = some_bound kinds.Registers in
      let four : length all_kinds ≡ 4 = refl in
      let one = bound_pushed A K f 0 all_kinds kinds.Recurrence a [] (a ∷ []) refl (omega arith) is_a refl bound_a none_bound in
      let two = bound_pushed A K f 1 all_kinds kinds.Recurrence b (a ∷ []) (a ∷ b ∷ []) refl (omega arith) is_b refl bound_b one in
      let three = bound_pushed A K f 2 all_kinds kinds.Recurrence c (a ∷ b ∷ []) (a ∷ b ∷ c ∷ []) refl (omega arith) is_c refl bound_c two in
      (a ∷ b ∷ c ∷ d ∷ [], bound_pushed A K f 3 all_kinds kinds.Recurrence d (a ∷ b ∷ c ∷ []) (a ∷ b ∷ c ∷ d ∷ []) refl (omega arith) is_d refl bound_d three, refl)

  -- ---- the least of all

  no_bound : Bound
  no_bound = record { kind = kinds.Recurrence; least = None; below = None }

  module _ (bounds : List Bound) (right : (bound : Bound) → Contains bounds bound → IsBound A K f bound) where
    abbrev HasLeast : Type 0
    HasLeast = (least : Least) × IsLeast A K f bounds least

    least_at : (ii : ℕ) (below : Option Reason) → 1 ≤ ii → ii ≤ A.contexts → IsLeastTo A K f bounds ii below → ((r : Reason) → IsLeastTo A K f bounds (ii + 1) (Some r) → HasLeast) → (v : Verdict) → IsVerdict A K f ii v → HasLeast
    least_at ii below l m to next (Excluded r) h = next r (least_next A K f bounds ii (Excluded r) r below refl h to)
    least_at ii below l m to next (Open t) h = (record { interval = Some ii; times = Some t; below = below }, least_found A K f bounds ii (Open t) t below refl l m h to)

    least_from : (fuel ii : ℕ) (below : Option Reason) → 1 ≤ ii → ii + fuel ≡ A.contexts + 1 → IsLeastTo A K f bounds ii below → HasLeast
    least_from zero ii below l e to = (record { interval = None; times = None; below = below }, least_none A K f bounds ii below (omega arith) to)
    least_from (suc fuel) ii below l e to =
        let m : ii ≤ A.contexts = omega arith in
        let (v, h) = some_verdict A K arch valid f all ii l (within ii m) in
        least_at ii below l m to (λ r next. least_from fuel (ii + 1) (Some r) (omega arith) (omega arith) next) v h

    -- where the search begins, by the least intervals of the first k kinds
    first_after : (k : ℕ) → k ≤ length bounds → (from : ℕ) × MayBeginAfter A K f bounds k from
    first_after zero l = (1, begins A K f bounds)
    first_after (suc k) l =
        let (from, may) = first_after k (omega arith) in
        let bound = get_or bounds k no_bound in
        let c = max from (unwrap_or bound.least (A.contexts + 1)) in
        let m : k < length bounds = omega arith in
        let next : k + 1 ≡ suc k = omega arith in
        (c, subst (λ z. MayBeginAfter A K f bounds z c) next (begin_next A K f bounds k no_bound from c m (right bound (Contains-get_or bounds k no_bound m)) refl (omega arith) may))

    some_from : (k : ℕ) → length bounds ≤ k → (from : ℕ) × MayBeginAfter A K f bounds k from → HasLeast
    some_from k l (from, may) =
        let s = may.begin.some in
        let w = may.begin.within in
        least_from (A.contexts + 1 - from) from None (omega arith) (omega arith) (least_begins A K f bounds from may.begin (above_all A K f bounds k from l may))

    some_least : HasLeast
    some_least = some_from (length bounds) (omega arith) (first_after (length bounds) (omega arith))

pub some_why : (A : Arch) (K : Kernel) → IsArch A → IsKernel K → (w : Why) × IsWhy A K w
some_why A K arch valid =
    let (f, all) = some_hops A K arch valid in
    let (bounds, are, four) = some_bounds A K arch valid f all in
    let (least, is) = some_least A K arch valid f all bounds are.right in
    (record { tables = f; bounds = held bounds (omega arith); least = least }, record { tables = all; bounds = are; least = is })
