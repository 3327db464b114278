-- When a list of complaints is empty.
use Rattle.std.proofs.Common.{◌≡◌, ℕ, zero, suc, ◌<◌, Bool, true, false, cond, List, [], ◌∷◌, ◌++◌, length, map, get_or, replicate, refl, ap, subst, ◌∙◌, arith, ⊎_elim}
use Rattle.std.proofs.lemmas.Bool.{cases_lt}
use Rattle.std.specs.Prelude.{bytes_eq}
use Rattle.std.proofs.lemmas.Slice.Eq.{bytes_eq-Decides}
use Rattle.cg_bits.specs.Parts.{joined}
use Rattle.cg_bits.specs.Faults.{unless}

pub none_both : {X : Type 0} (xs ys : List X) → xs ++ ys ≡ [] → (xs ≡ []) × (ys ≡ [])
none_both [] ys e = (refl, e)
none_both (x ∷ xs) ys e = absurd cc

pub both_none : {X : Type 0} (xs ys : List X) → xs ≡ [] → ys ≡ [] → xs ++ ys ≡ []
both_none [] ys e f = f
both_none (x ∷ xs) ys e f = absurd cc

pub none_map : {X Y : Type 0} (f : X → Y) (xs : List X) → map f xs ≡ [] → xs ≡ []
none_map f [] e = refl
none_map f (x ∷ xs) e = absurd cc

pub map_none : {X Y : Type 0} (f : X → Y) (xs : List X) → xs ≡ [] → map f xs ≡ []
map_none f xs e = ap (map f) e

pub none_unless : {X : Type 0} (b : Bool) (x : X) → unless b x ≡ [] → b ≡ true
none_unless true x e = refl
none_unless false x e = absurd cc

pub unless_none : {X : Type 0} (b : Bool) (x : X) → b ≡ true → unless b x ≡ []
unless_none true x e = refl
unless_none false x e = absurd cc

pub none_joined : {X : Type 0} (f : ℕ → List X) (n : ℕ) → joined f n ≡ [] → (i : ℕ) → i < n → f i ≡ []
unfolding joined
none_joined f zero e i lt = absurd (omega arith)
none_joined f (suc n) e i lt =
    let parts = none_both (joined f n) (f n) e in
    ⊎_elim (λ l. none_joined f n parts.0 i l) (λ l. let same : n ≡ i = omega arith in subst (λ j. f j ≡ []) same parts.1) (cases_lt i n)

pub joined_none : {X : Type 0} (f : ℕ → List X) (n : ℕ) → ((i : ℕ) → i < n → f i ≡ []) → joined f n ≡ []
unfolding joined
joined_none f zero h = refl
joined_none f (suc n) h = both_none (joined f n) (f n) (joined_none f n (λ i lt. h i (omega arith))) (h n (omega arith))

pub none_guard : {X : Type 0} (b : Bool) (x : X) (ys : List X) → cond b (x ∷ []) ys ≡ [] → (b ≡ false) × (ys ≡ [])
none_guard true x ys e = absurd cc
none_guard false x ys e = (refl, e)

pub guard_none : {X : Type 0} (b : Bool) (x : X) (ys : List X) → b ≡ false → ys ≡ [] → cond b (x ∷ []) ys ≡ []
guard_none true x ys e f = absurd cc
guard_none false x ys e f = f

pub cond_none : {X : Type 0} (b : Bool) (xs : List X) → xs ≡ [] → cond b xs [] ≡ []
cond_none true xs e = e
cond_none false xs e = refl

pub same_is : (xs ys : List ℕ) → bytes_eq xs ys ≡ true → xs ≡ ys
same_is xs ys e = (bytes_eq-Decides xs ys).0 e

pub is_same : (xs : List ℕ) → bytes_eq xs xs ≡ true
is_same xs = (bytes_eq-Decides xs xs).1 refl

pub all_false : (xs : List Bool) (n : ℕ) → length xs ≡ n → ((i : ℕ) → i < n → get_or xs i false ≡ false) → xs ≡ replicate n false
all_false [] zero e h = refl
all_false [] (suc n) e h = absurd (omega arith)
all_false (x ∷ xs) zero e h = absurd (omega arith)
all_false (x ∷ xs) (suc n) e h = ap (λ z. z ∷ xs) (h 0 (omega arith)) ∙ ap (λ zs. false ∷ zs) (all_false xs n (omega arith) (λ i lt. h (suc i) (omega arith)))
