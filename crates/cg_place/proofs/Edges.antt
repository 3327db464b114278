-- Order edges, as a node moves.
use Rattle.std.proofs.Common.{◌≡◌, ◌≢◌, ℕ, ◌+◌, ◌*◌, ◌<◌, ◌≤◌, Bool, false, cond, List, [], ◌∷◌, set, get_or, refl, sym, ap, ◌∙◌, subst, arith, ⊎_elim, eq-eqb}
use Rattle.std.specs.Prelude.{not, nat_lt, filter, count_by}
use Rattle.std.proofs.lemmas.Bool.{cases_Bool, or_left, or_right, both_ways}
use Rattle.std.proofs.lemmas.List.{get_or-set_other}
use Rattle.std.proofs.lemmas.Option.{slice_get-get_or}
use Rattle.std.proofs.lemmas.List.Elements.{All-from_get_or}
use Rattle.std.proofs.lemmas.List.Sums.{sum_by-cons}
use Rattle.std.proofs.lemmas.List.Filters.{sum_by-filter_both}
use Rattle.cg_model.specs.declared.kernel.OrderEdge.{OrderEdge}
use Rattle.cg_model.specs.declared.mapping.Place.{Place}
use Rattle.cg_model.specs.Kernel.{Kernel, IsKernel, size}
use Rattle.cg_place.specs.Placed.{place_in}
use Rattle.cg_place.specs.Counts.{is_broken}
use Rattle.cg_place.specs.Touching.{touches, AreKnown}

-- two tests that agree on all but some count apart by these
pub count_split : {X : Type 0} (p q t : X → Bool) → ((x : X) → t x ≡ false → p x ≡ q x) → (xs : List X) → count_by p xs + count_by q (filter t xs) ≡ count_by q xs + count_by p (filter t xs)
count_split {X} p q t same [] = refl
count_split {X} p q t same (x ∷ xs) =
    let rest = count_split p q t same xs in
    let a : count_by p (x ∷ xs) ≡ cond (p x) 1 0 + count_by p xs = sum_by-cons (λ y. cond (p y) 1 0) x xs in
    let b : count_by q (x ∷ xs) ≡ cond (q x) 1 0 + count_by q xs = sum_by-cons (λ y. cond (q y) 1 0) x xs in
    ⊎_elim
    (λ on.
    let c : count_by p (x ∷ filter t xs) ≡ cond (p x) 1 0 + count_by p (filter t xs) = sum_by-cons (λ y. cond (p y) 1 0) x (filter t xs) in
    let d : count_by q (x ∷ filter t xs) ≡ cond (q x) 1 0 + count_by q (filter t xs) = sum_by-cons (λ y. cond (q y) 1 0) x (filter t xs) in
    let kept : filter t (x ∷ xs) ≡ x ∷ filter t xs = ap (λ z. cond z (x ∷ filter t xs) (filter t xs)) on in
    subst (λ (z : List X). count_by p (x ∷ xs) + count_by q z ≡ count_by q (x ∷ xs) + count_by p z) (sym kept)
    (omega arith))
    (λ off.
    let e : cond {A = ℕ} (p x) 1 0 ≡ cond {A = ℕ} (q x) 1 0 = ap (λ z. cond z 1 0) (same x off) in
    let left : filter t (x ∷ xs) ≡ filter t xs = ap (λ z. cond z (x ∷ filter t xs) (filter t xs)) off in
    subst (λ (z : List X). count_by p (x ∷ xs) + count_by q z ≡ count_by q (x ∷ xs) + count_by p z) (sym left)
    (omega arith))
    (cases_Bool (t x))

pub count_filter : {X : Type 0} (p t : X → Bool) (xs : List X) → count_by p (filter t xs) ≤ count_by p xs
count_filter p t xs = let e = sum_by-filter_both t (λ x. not (t x)) (λ x. refl) (λ x. cond (p x) 1 0) xs in omega arith

-- an edge that doesn't touch the node is broken as before
pub unmoved : (ii : ℕ) (places : List Place) (v : ℕ) (q : Place) (e : OrderEdge) → touches v e ≡ false → is_broken ii (set places v q) e ≡ is_broken ii places e
unmoved ii places v q e off =
    let from : e.from ≢ v = λ same. both_ways _ off (or_left _ _ (eq-eqb e.from v same)) in
    let to : e.to ≢ v = λ same. both_ways _ off (or_right _ _ (eq-eqb e.to v same)) in
    ap (λ (z : Place). nat_lt (z.time + ii * e.distance) ((place_in (set places v q) e.from).time + 1)) (get_or-set_other places v e.to q _ to)
    ∙ ap (λ (z : Place). nat_lt ((place_in places e.to).time + ii * e.distance) (z.time + 1)) (get_or-set_other places v e.from q _ from)

-- the order edges of a kernel join its nodes
pub order_known : (K : Kernel) → IsKernel K → AreKnown (size K) K.order
order_known K good = All-from_get_or (λ (e : OrderEdge). (e.from < size K) × (e.to < size K)) K.order (record { from = 0; to = 0; distance = 0 })
    (λ i l. let e = get_or K.order i (record { from = 0; to = 0; distance = 0 }) in good.order.known i e.from e.to e.distance (slice_get-get_or K.order i (record { from = 0; to = 0; distance = 0 }) l))
