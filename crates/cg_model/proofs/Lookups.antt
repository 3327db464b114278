-- Places and elements of lists.
use Rattle.std.proofs.Common.{◌≡◌, ℕ, zero, suc, List, [], ◌∷◌, map, Some, None, ap, Contains, arith, ◌+◌, Bool, false, cond, refl, ◌∙◌}
use Rattle.std.specs.Prelude.{slice_get}
use Rattle.std.proofs.lemmas.Option.{slice_get_within, get_or_from_slice_get}
use Rattle.cg_model.specs.First.{first_from}

pub get_map : {X Y : Type 0} (f : X → Y) (xs : List X) (i : ℕ) (x : X) → slice_get xs i ≡ Some x → slice_get (map f xs) i ≡ Some (f x)
get_map f [] i x at = let bad : None ≡ Some x = at in absurd (cc)
get_map f (y ∷ ys) zero x at = let same : y ≡ x = cc in ap (λ z. Some (f z)) same
get_map f (y ∷ ys) (suc i) x at = get_map f ys i x at

pub Contains-get : {X : Type 0} (xs : List X) (k : ℕ) (x : X) → slice_get xs k ≡ Some x → Contains xs x
Contains-get xs k x e = (k, slice_get_within xs k x e, get_or_from_slice_get xs k x x e)

pub Contains-nil : {X : Type 0} (x : X) → Contains [] x → ⊥
Contains-nil x h = omega (arith, h.1)

pub first_from-none : {X : Type 0} (t : ℕ → X → Bool) (i : ℕ) (xs : List X) → ((k j : ℕ) (x : X) → slice_get xs k ≡ Some x → j ≡ i + k → t j x ≡ false) → first_from t i xs ≡ None
first_from-none t i [] h = refl
first_from-none t i (x ∷ xs) h =
    ap (λ b. cond b (Some i) (first_from t (i + 1) xs)) (h 0 i x refl (omega arith))
    ∙ first_from-none t (i + 1) xs (λ k j y at here. h (suc k) j y at (omega arith))
