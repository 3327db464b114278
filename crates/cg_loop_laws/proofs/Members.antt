-- Members of lists, by place.
use Rattle.std.proofs.Common.{◌≡◌, ℕ, zero, suc, List, [], ◌∷◌, ◌++◌, Some, Bool, true, refl, ap, ◌∙◌, ⊎_elim, inl, inr}
use Rattle.std.specs.Prelude.{◌⊎◌, slice_get, filter}
use Rattle.std.specs.List.{flat_map}
use Rattle.std.proofs.lemmas.Bool.{cases_Bool, cond-true, cond-false}

abbrev pub In : {X : Type 0} → List X → X → Type 0
In xs x = (k : ℕ) × (slice_get xs k ≡ Some x)

in_append_left : {X : Type 0} (xs ys : List X) (k : ℕ) (x : X) → slice_get xs k ≡ Some x → slice_get (xs ++ ys) k ≡ Some x
in_append_left [] ys k x e = absurd (cc)
in_append_left (y ∷ xs) ys zero x e = e
in_append_left (y ∷ xs) ys (suc k) x e = in_append_left xs ys k x e

pub in_left : {X : Type 0} (xs ys : List X) (x : X) → In xs x → In (xs ++ ys) x
in_left xs ys x h = (h.0, in_append_left xs ys h.0 x h.1)

pub in_right : {X : Type 0} (xs ys : List X) (x : X) → In ys x → In (xs ++ ys) x
in_right [] ys x h = h
in_right (y ∷ xs) ys x h = let r = in_right xs ys x h in (suc r.0, r.1)

pub in_append_cases : {X : Type 0} (xs ys : List X) (k : ℕ) (x : X) → slice_get (xs ++ ys) k ≡ Some x → In xs x ⊎ In ys x
in_append_cases [] ys k x e = inr (k, e)
in_append_cases (y ∷ xs) ys zero x e = inl (0, e)
in_append_cases (y ∷ xs) ys (suc k) x e = ⊎_elim (λ h. inl (suc h.0, h.1)) (λ h. inr h) (in_append_cases xs ys k x e)

pub in_flat_map : {X Y : Type 0} (f : X → List Y) (xs : List X) (k : ℕ) (x : X) (y : Y) → slice_get xs k ≡ Some x → In (f x) y → In (flat_map f xs) y
in_flat_map f [] k x y e h = absurd (cc)
in_flat_map f (z ∷ xs) zero x y e h = let w : z ≡ x = cc in let r = rw (← w) at h in in_left (f z) (flat_map f xs) y r
in_flat_map f (z ∷ xs) (suc k) x y e h = in_right (f z) (flat_map f xs) y (in_flat_map f xs k x y e h)

pub in_flat_map_from : {X Y : Type 0} (f : X → List Y) (xs : List X) (y : Y) → In (flat_map f xs) y → (x : X) × In xs x × In (f x) y
in_flat_map_from f [] y h = absurd (let e = h.1 in cc)
in_flat_map_from f (x ∷ xs) y h =
    ⊎_elim (λ i. (x, (0, refl), i)) (λ i. let r = in_flat_map_from f xs y i in (r.0, (suc r.1.0, r.1.1), r.2)) (in_append_cases (f x) (flat_map f xs) h.0 y h.1)

pub in_filter : {X : Type 0} (f : X → Bool) (xs : List X) (k : ℕ) (x : X) → slice_get xs k ≡ Some x → f x ≡ true → In (filter f xs) x
in_filter f [] k x e t = absurd (cc)
in_filter f (y ∷ xs) zero x e t = let w : y ≡ x = cc in rw (cond-true (f y) (y ∷ filter f xs) (filter f xs) (ap f w ∙ t)) (0, e)
in_filter f (y ∷ xs) (suc k) x e t =
    let r = in_filter f xs k x e t in
    ⊎_elim (λ u. rw (cond-true (f y) (y ∷ filter f xs) (filter f xs) u) (suc r.0, r.1)) (λ u. rw (cond-false (f y) (y ∷ filter f xs) (filter f xs) u) r) (cases_Bool (f y))
