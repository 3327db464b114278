-- How a move that is refused is undone: the routes that were tried are taken away, the node is placed as before, and
-- its old routes come back.
use Rattle.std.proofs.Common.{◌≡◌, ◌≢◌, ℕ, zero, suc, ◌<◌, ◌⊎◌, inl, inr, List, [], ◌∷◌, length, get_or, set, Option, None, refl, sym, ap, ◌∙◌, subst, arith, ⊎_elim}
use Rattle.std.specs.Prelude.{Contains}
use Rattle.std.proofs.lemmas.Bool.{cases_eq}
use Rattle.std.proofs.lemmas.List.{get_or-set_same, get_or-set_other, length-set, ext_get_or}
use Rattle.cg_model.specs.Kernel.{Kernel}
use Rattle.cg_model.specs.Array.{Arch}
use Rattle.cg_place.specs.declared.moves.Move.{Move}
use Rattle.cg_walk_spec.specs.State.{State}
use Rattle.cg_walk_spec.specs.Walk.{with_route, IsRouted, IsTried, touching, unrouted, moved_by}
use Rattle.cg_walk_spec.proofs.Uses.{unrouted_places, unrouted_history, unrouted_length}
use Rattle.cg_walk_spec.proofs.Histories.{routed_history}

-- routing leaves the places and the other routes
pub routed_places : (A : Arch) (K : Kernel) (ii : ℕ) (is : List ℕ) (S after : State) → IsRouted A K ii is S after → after.places ≡ S.places
routed_places A K ii [] S after h = ap (λ (x : State). x.places) (sym h)
routed_places A K ii (i ∷ is) S after h = routed_places A K ii is (with_route S i h.0) after h.2

pub routed_length : (A : Arch) (K : Kernel) (ii : ℕ) (is : List ℕ) (S after : State) → IsRouted A K ii is S after → length after.routes ≡ length S.routes
routed_length A K ii [] S after h = ap (λ (x : State). length x.routes) (sym h)
routed_length A K ii (i ∷ is) S after h = routed_length A K ii is (with_route S i h.0) after h.2 ∙ length-set S.routes i h.0

-- the routes of two states are the same but for those numbers
abbrev pub SameBut : List ℕ → List (Option (List ℕ)) → List (Option (List ℕ)) → Type 0
SameBut is rs qs = (length rs ≡ length qs) × ((j : ℕ) → (Contains is j → ⊥) → get_or rs j None ≡ get_or qs j None)

out_of : (i j : ℕ) (is : List ℕ) → (Contains (i ∷ is) j → ⊥) → (j ≢ i) × (Contains is j → ⊥)
out_of i j is out = (λ e. out (0, omega arith, sym e), λ m. out (suc m.0, omega (arith, m.1), m.2))

pub routed_others : (A : Arch) (K : Kernel) (ii : ℕ) (is : List ℕ) (S after : State) → IsRouted A K ii is S after → SameBut is after.routes S.routes
routed_others A K ii is S after h = (routed_length A K ii is S after h, others is S after h)
  where
    others : (is : List ℕ) (S after : State) → IsRouted A K ii is S after → (j : ℕ) → (Contains is j → ⊥) → get_or after.routes j None ≡ get_or S.routes j None
    others [] S after h j out = ap (λ (x : State). get_or x.routes j None) (sym h)
    others (i ∷ is) S after h j out =
        let apart = out_of i j is out in
        others is (with_route S i h.0) after h.2 j apart.1 ∙ get_or-set_other S.routes i j h.0 None apart.0

pub unrouted_others : (is : List ℕ) (S : State) → SameBut is (unrouted is S).routes S.routes
unrouted_others is S = (unrouted_length is S, others is S)
  where
    others : (is : List ℕ) (S : State) (j : ℕ) → (Contains is j → ⊥) → get_or (unrouted is S).routes j None ≡ get_or S.routes j None
    others [] S j out = refl
    others (i ∷ is) S j out =
        let apart = out_of i j is out in
        others is (with_route S i None) j apart.1 ∙ get_or-set_other S.routes i j None None apart.0

not_first : (i j : ℕ) (is : List ℕ) → j ≢ i → (Contains is j → ⊥) → Contains (i ∷ is) j → ⊥
not_first i j is c out (zero, l, e) = c (sym e)
not_first i j is c out (suc k, l, e) = out (k, omega arith, e)

-- without the routes of those numbers two such states have the same routes
pub unrouted_same : (is : List ℕ) (S T : State) → SameBut is S.routes T.routes → (unrouted is S).routes ≡ (unrouted is T).routes
unrouted_same [] S T h = ext_get_or None S.routes T.routes h.0 (λ j l. h.1 j (λ m. omega (arith, m.1)))
unrouted_same (i ∷ is) S T h =
    unrouted_same is (with_route S i None) (with_route T i None) (
      length-set S.routes i None ∙ h.0 ∙ sym (length-set T.routes i None),
      λ j out.
          ⊎_elim
          (λ (c : j ≡ i). subst (λ x. get_or (set S.routes i None) x None ≡ get_or (set T.routes i None) x None) (sym c) (none_at S.routes i ∙ sym (none_at T.routes i)))
          (λ (c : j ≢ i).
          get_or-set_other S.routes i j None None c ∙ h.1 j (λ m. not_first i j is c out m) ∙ sym (get_or-set_other T.routes i j None None c))
          (cases_eq j i),
    )
  where
    none_at : (rs : List (Option (List ℕ))) (i : ℕ) → get_or (set rs i None) i None ≡ None
    none_at [] i = refl
    none_at (r ∷ rs) zero = refl
    none_at (r ∷ rs) (suc i) = none_at rs i

same_state : (S T : State) → S.places ≡ T.places → S.routes ≡ T.routes → S.history ≡ T.history → S ≡ T
same_state S T a b c = ap (λ x. record S { places = x }) a ∙ ap (λ x. record { places = T.places; routes = x; history = S.history }) b ∙ ap (λ x. record T { history = x }) c

-- a move that was tried leaves the state that it began from, but for the routes of the node
pub tried_undone : (A : Arch) (K : Kernel) (ii : ℕ) (m : Move) (S tried : State) → IsTried A K ii m S tried →
    record (unrouted (touching K m.node) tried) { places = S.places } ≡ unrouted (touching K m.node) S
tried_undone A K ii m S tried h =
    let is = touching K m.node in
    let a = routed_others A K ii is (moved_by K m S) tried h in
    let b = unrouted_others is S in
    same_state (record (unrouted is tried) { places = S.places }) (unrouted is S) (sym (unrouted_places is S))
    (unrouted_same is tried S (a.0 ∙ b.0, λ j out. a.1 j out ∙ b.1 j out))
    (unrouted_history is tried ∙ routed_history A K ii is (moved_by K m S) tried h ∙ unrouted_history is S ∙ sym (unrouted_history is S))

-- these routes come back, one after another
abbrev pub restored : List ℕ → List (Option (List ℕ)) → State → State
restored [] old T = T
restored (i ∷ is) old T = restored is old (with_route T i (get_or old i None))

in_or_out : (is : List ℕ) (j : ℕ) → (Contains is j) ⊎ (Contains is j → ⊥)
in_or_out [] j = inr (λ m. omega (arith, m.1))
in_or_out (i ∷ is) j =
    ⊎_elim (λ (c : j ≡ i). inl (0, omega arith, sym c))
    (λ (c : j ≢ i).
    ⊎_elim (λ (m : Contains is j). inl (suc m.0, omega (arith, m.1), m.2)) (λ (out : Contains is j → ⊥). inr (not_first i j is c out)) (in_or_out is j))
    (cases_eq j i)

-- and then the state is as before
pub restored_is : (is : List ℕ) (S : State) → restored is S.routes (unrouted is S) ≡ S
restored_is is S = same_state (restored is S.routes (unrouted is S)) S (places is S.routes (unrouted is S) ∙ unrouted_places is S) all (histories is S.routes (unrouted is S) ∙ unrouted_history is S)
  where
    places : (is : List ℕ) (old : List (Option (List ℕ))) (T : State) → (restored is old T).places ≡ T.places
    places [] old T = refl
    places (i ∷ is) old T = places is old (with_route T i (get_or old i None))

    histories : (is : List ℕ) (old : List (Option (List ℕ))) (T : State) → (restored is old T).history ≡ T.history
    histories [] old T = refl
    histories (i ∷ is) old T = histories is old (with_route T i (get_or old i None))

    long : (is : List ℕ) (old : List (Option (List ℕ))) (T : State) → length (restored is old T).routes ≡ length T.routes
    long [] old T = refl
    long (i ∷ is) old T = long is old (with_route T i (get_or old i None)) ∙ length-set T.routes i (get_or old i None)

    -- what is right stays, and what is in the list becomes right
    right : (is : List ℕ) (old : List (Option (List ℕ))) (T : State) (j : ℕ) → j < length T.routes → get_or T.routes j None ≡ get_or old j None → get_or (restored is old T).routes j None ≡ get_or old j None
    right [] old T j l h = h
    right (i ∷ is) old T j l h =
        right is old (with_route T i (get_or old i None)) j (let z = length-set T.routes i (get_or old i None) in omega (arith, z, l))
        (⊎_elim
        (λ (c : j ≡ i). subst (λ y. get_or (set T.routes i (get_or old i None)) y None ≡ get_or old y None) (sym c) (get_or-set_same T.routes i (get_or old i None) None (subst (λ y. y < length T.routes) c l)))
        (λ (c : j ≢ i). get_or-set_other T.routes i j (get_or old i None) None c ∙ h) (cases_eq j i))

    back : (is : List ℕ) (old : List (Option (List ℕ))) (T : State) (j : ℕ) → j < length T.routes → Contains is j → get_or (restored is old T).routes j None ≡ get_or old j None
    back [] old T j l m = absurd (omega (arith, m.1))
    back (i ∷ is) old T j l (zero, a, e) =
        right is old (with_route T i (get_or old i None)) j (let z = length-set T.routes i (get_or old i None) in omega (arith, z, l))
        (subst (λ y. get_or (set T.routes i (get_or old i None)) y None ≡ get_or old y None) e (get_or-set_same T.routes i (get_or old i None) None (subst (λ y. y < length T.routes) (sym e) l)))
    back (i ∷ is) old T j l (suc k, a, e) =
        back is old (with_route T i (get_or old i None)) j (let z = length-set T.routes i (get_or old i None) in omega (arith, z, l)) (k, omega arith, e)

    all : (restored is S.routes (unrouted is S)).routes ≡ S.routes
    all = ext_get_or None (restored is S.routes (unrouted is S)).routes S.routes (long is S.routes (unrouted is S) ∙ unrouted_length is S) (λ j l.
        let within : j < length (unrouted is S).routes = let z = long is S.routes (unrouted is S) in omega (arith, z, l) in
        ⊎_elim (λ (m : Contains is j). back is S.routes (unrouted is S) j within m)
        (λ (out : Contains is j → ⊥). right is S.routes (unrouted is S) j within ((unrouted_others is S).1 j out))
        (in_or_out is j))
