-- The first of a list that is made of parts.
use Rattle.std.proofs.Common.{◌≡◌, ℕ, zero, suc, ◌+◌, ◌<◌, Bool, true, false, List, [], ◌∷◌, ◌++◌, Some, None, refl, sym, ap, ◌∙◌, arith, add-one, ⊎_elim}
use Rattle.std.proofs.lemmas.Bool.{cases_lt}
use Rattle.cg_bits.specs.Parts.{joined}
use Rattle.cg_flat.specs.Slots.{total}
use Rattle.cg_bits.specs.Faults.{first, unless}
use Rattle.cg_bits.proofs.None.{both_none}

pub first_left : {X : Type 0} (xs ys : List X) (x : X) → first xs ≡ Some x → first (xs ++ ys) ≡ Some x
first_left [] ys x e = absurd cc
first_left (y ∷ xs) ys x e = e

pub first_right : {X : Type 0} (xs ys : List X) → xs ≡ [] → first (xs ++ ys) ≡ first ys
first_right [] ys e = refl
first_right (y ∷ xs) ys e = absurd cc

-- nothing in the parts before it, so the first of this part is the first of all
pub first_joined : {X : Type 0} (f : ℕ → List X) (n i : ℕ) (x : X) → joined f i ≡ [] → i < n → first (f i) ≡ Some x → first (joined f n) ≡ Some x
unfolding joined
first_joined f zero i x e lt h = absurd (omega arith)
first_joined f (suc n) i x e lt h =
    ⊎_elim (λ l. first_left (joined f n) (f n) x (first_joined f n i x e l h))
    (λ l. let same : i ≡ n = omega arith in first_right (joined f n) (f n) (ap (joined f) (sym same) ∙ e) ∙ ap (λ j. first (f j)) (sym same) ∙ h) (cases_lt i n)

pub first_unless : {X : Type 0} (b : Bool) (x : X) → b ≡ false → first (unless b x) ≡ Some x
first_unless true x e = absurd cc
first_unless false x e = refl

pub joined_none_zero : {X : Type 0} (f : ℕ → List X) → joined f 0 ≡ []
unfolding joined
joined_none_zero f = refl

pub joined_none_more : {X : Type 0} (f : ℕ → List X) (n : ℕ) → joined f n ≡ [] → f n ≡ [] → joined f (n + 1) ≡ []
unfolding joined
joined_none_more f n e h = ap (joined f) (add-one n) ∙ both_none (joined f n) (f n) e h

pub total_zero : (f : ℕ → ℕ) → total f 0 ≡ 0
unfolding total
total_zero f = refl

pub first_none : {X : Type 0} (xs : List X) → None ≡ first xs → xs ≡ []
first_none [] e = refl
first_none (x ∷ xs) e = absurd cc
