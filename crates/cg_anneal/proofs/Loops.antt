-- Edge operands routed, taken and put back, step by step.
use Rattle.std.proofs.Common.{◌≡◌, ℕ, zero, suc, ◌+◌, ◌<◌, List, [], ◌∷◌, ◌++◌, length, map, get_or, take, drop, Option, Some, None, refl, sym, ap, ◌∙◌, subst, arith}
use Rattle.std.specs.Prelude.{Contains, slice_get}
use Rattle.std.proofs.lemmas.List.{take_more, drop_more, map-append, length-take-le}
use Rattle.std.proofs.lemmas.List.Elements.{All-head}
use Rattle.cg_walk_spec.specs.State.{State}
use Rattle.cg_walk_spec.specs.Walk.{with_route, unrouted, IsFoundFor, IsRouted}
use Rattle.cg_walk_spec.specs.Pending.{Rising, Pending}
use Rattle.cg_walk_spec.proofs.Pending.{pending_next, routed_then, with_same_route}
use Rattle.cg_walk_spec.proofs.Undone.{unrouted_others, restored}
use Rattle.cg_anneal.specs.Walking.{Walking, at_state, IsRoutedBy}
use Rattle.cg_anneal.specs.Steps.{put_back}

-- ---- lists of rising numbers

rising_drop : (k : ℕ) (is : List ℕ) → Rising is → Rising (drop k is)
rising_drop zero is h = h
rising_drop (suc k) [] h = tt
rising_drop (suc k) (i ∷ is) h = rising_drop k is h.1

pub rising_next : (is : List ℕ) (k : ℕ) → k < length is → Rising is → Rising (get_or is k 0 ∷ drop (k + 1) is)
rising_next is k l h = subst (λ xs. Rising xs) (drop_more is k 0 l) (rising_drop k is h)

rising_out : (is : List ℕ) (k : ℕ) → Rising is → k < length is → Contains (take k is) (get_or is k 0) → ⊥
rising_out [] k h l m = absurd (omega arith)
rising_out (i ∷ is) zero h l m = absurd (omega (arith, m.1))
rising_out (i ∷ is) (suc k) h l (zero, a, e) = let b = h.0 k 0 (omega arith) in omega (arith, e, b)
rising_out (i ∷ is) (suc k) h l (suc j, a, e) = rising_out is k h.1 (omega arith) (j, omega (arith, a), e)

-- ---- routed

pub routed_none : (W : Walking) → IsRoutedBy [] W W
routed_none W = record { same = refl; routed = refl }

pub routed_idle : (W : Walking) (i : ℕ) → slice_get W.state.routes i ≡ Some None → IsFoundFor W.arch W.kernel W.ii W.state i None → IsRoutedBy (i ∷ []) W W
routed_idle W i none found = record { same = refl; routed = (None, found, with_same_route W.state i None none) }

pub routed_one : (W V : Walking) (i : ℕ) (path : List ℕ) → IsFoundFor W.arch W.kernel W.ii W.state i (Some path) → V ≡ at_state W (with_route W.state i (Some path)) → IsRoutedBy (i ∷ []) W V
routed_one W V i path found h = record {
  same = h ∙ ap (λ (S : State). at_state W S) (sym (ap (λ (X : Walking). X.state) h));
  routed = (Some path, found, sym (ap (λ (X : Walking). X.state) h));
}

pub routed_by_more : (W V U : Walking) (is : List ℕ) (n : ℕ) → n < length is → IsRoutedBy (take n is) W V → IsRoutedBy (get_or is n 0 ∷ []) V U → IsRoutedBy (take (n + 1) is) W U
routed_by_more W V U is n l a b =
    let i = get_or is n 0 in
    let next = subst (λ (X : Walking). IsRouted X.arch X.kernel X.ii (i ∷ []) V.state U.state) a.same b.routed in
    record {
      same = b.same ∙ ap (λ (X : Walking). at_state X U.state) a.same;
      routed = subst (λ xs. IsRouted W.arch W.kernel W.ii xs W.state U.state) (sym (take_more is n 0 l)) (routed_then W.arch W.kernel W.ii (take n is) (i ∷ []) W.state V.state U.state a.routed next);
    }

pub routed_pending : (W V : Walking) (is : List ℕ) (k : ℕ) → k < length is → Rising is → Pending (drop k is) W.state → IsRoutedBy (get_or is k 0 ∷ []) W V → Pending (drop (k + 1) is) V.state
routed_pending W V is k l rising pending by =
    let i = get_or is k 0 in
    let routed = by.routed in
    subst (λ (S : State). Pending (drop (k + 1) is) S) routed.2
    (pending_next i (drop (k + 1) is) W.state routed.0 (rising_next is k l rising) (subst (λ xs. Pending xs W.state) (drop_more is k 0 l) pending))

pub pending_here : (is : List ℕ) (k : ℕ) (S : State) → k < length is → Pending (drop k is) S → slice_get S.routes (get_or is k 0) ≡ Some None
pending_here is k S l pending =
    All-head (λ i. slice_get S.routes i ≡ Some None) (get_or is k 0) (drop (k + 1) is) (subst (λ xs. Pending xs S) (drop_more is k 0 l) pending)

-- ---- taken away

unrouted_append : (xs ys : List ℕ) (S : State) → unrouted (xs ++ ys) S ≡ unrouted ys (unrouted xs S)
unrouted_append [] ys S = refl
unrouted_append (x ∷ xs) ys S = unrouted_append xs ys (with_route S x None)

pub taken_more : (W V U : Walking) (is : List ℕ) (n : ℕ) → n < length is → V ≡ at_state W (unrouted (take n is) W.state) → U ≡ at_state V (with_route V.state (get_or is n 0) None) →
    U ≡ at_state W (unrouted (take (n + 1) is) W.state)
taken_more W V U is n l a b =
    b ∙ ap (λ (X : Walking). at_state X (with_route X.state (get_or is n 0) None)) a
    ∙ ap (λ (S : State). at_state W S) (sym (ap (λ xs. unrouted xs W.state) (take_more is n 0 l) ∙ unrouted_append (take n is) (get_or is n 0 ∷ []) W.state))

pub route_taken : (W V : Walking) (is : List ℕ) (n : ℕ) → n < length is → Rising is → V ≡ at_state W (unrouted (take n is) W.state) →
    get_or V.state.routes (get_or is n 0) None ≡ get_or W.state.routes (get_or is n 0) None
route_taken W V is n l rising a =
    ap (λ (X : Walking). get_or X.state.routes (get_or is n 0) None) a ∙ (unrouted_others (take n is) W.state).1 (get_or is n 0) (λ m. rising_out is n rising l m)

pub routes_more : (routes : List (Option (List ℕ))) (is : List ℕ) (n : ℕ) (old new : List (Option (List ℕ))) (r : Option (List ℕ)) → n < length is → old ≡ map (λ i. get_or routes i None) (take n is) →
    new ≡ old ++ r ∷ [] → r ≡ get_or routes (get_or is n 0) None → new ≡ map (λ i. get_or routes i None) (take (n + 1) is)
routes_more routes is n old new r l a b d =
    let f : ℕ → Option (List ℕ) = λ i. get_or routes i None in
    b ∙ ap (λ xs. xs ++ r ∷ []) a ∙ ap (λ x. map f (take n is) ++ x ∷ []) d ∙ sym (ap (λ xs. map f xs) (take_more is n 0 l) ∙ map-append f (take n is) (get_or is n 0 ∷ []))

-- ---- put back

put_append : (is js : List ℕ) (rs qs : List (Option (List ℕ))) (S : State) → length is ≡ length rs → put_back (is ++ js) (rs ++ qs) S ≡ put_back js qs (put_back is rs S)
put_append [] js [] qs S h = refl
put_append [] js (r ∷ rs) qs S h = absurd (omega (arith, h))
put_append (i ∷ is) js [] qs S h = absurd (omega (arith, h))
put_append (i ∷ is) js (r ∷ rs) qs S h = put_append is js rs qs (with_route S i r) (omega (arith, h))

pub put_places : (is : List ℕ) (rs : List (Option (List ℕ))) (S : State) → (put_back is rs S).places ≡ S.places
put_places [] rs S = refl
put_places (i ∷ is) [] S = refl
put_places (i ∷ is) (r ∷ rs) S = put_places is rs (with_route S i r)

pub put_more : (W V U : Walking) (is : List ℕ) (rs : List (Option (List ℕ))) (n : ℕ) (r : Option (List ℕ)) → n < length is → length rs ≡ length is → r ≡ get_or rs n None →
    V ≡ at_state W (put_back (take n is) (take n rs) W.state) → U ≡ at_state V (with_route V.state (get_or is n 0) r) → U ≡ at_state W (put_back (take (n + 1) is) (take (n + 1) rs) W.state)
put_more W V U is rs n r l each h a b =
    let i = get_or is n 0 in
    let long : length (take n is) ≡ length (take n rs) = let x = length-take-le n is (omega (arith, l)) in let y = length-take-le n rs (omega (arith, l, each)) in omega (arith, x, y) in
    let step = put_append (take n is) (i ∷ []) (take n rs) (get_or rs n None ∷ []) W.state long in
    b ∙ ap (λ (X : Walking). at_state X (with_route X.state i r)) a ∙ ap (λ x. at_state W (with_route (put_back (take n is) (take n rs) W.state) i x)) h
    ∙ ap (λ (S : State). at_state W S)
    (sym (ap (λ xs. put_back xs (take (n + 1) rs) W.state) (take_more is n 0 l) ∙ ap (λ xs. put_back (take n is ++ i ∷ []) xs W.state) (take_more rs n None (omega (arith, l, each))) ∙ step))

pub put_pending : (W U : Walking) (is : List ℕ) (k : ℕ) (r : Option (List ℕ)) → k < length is → Rising is → Pending (drop k is) W.state → U ≡ at_state W (with_route W.state (get_or is k 0) r) → Pending (drop (k + 1) is) U.state
put_pending W U is k r l rising pending h =
    subst (λ (X : Walking). Pending (drop (k + 1) is) X.state) (sym h)
    (pending_next (get_or is k 0) (drop (k + 1) is) W.state r (rising_next is k l rising) (subst (λ xs. Pending xs W.state) (drop_more is k 0 l) pending))

-- they are those of before
pub put_restored : (is : List ℕ) (old : List (Option (List ℕ))) (S : State) → put_back is (map (λ i. get_or old i None) is) S ≡ restored is old S
put_restored [] old S = refl
put_restored (i ∷ is) old S = put_restored is old (with_route S i (get_or old i None))
