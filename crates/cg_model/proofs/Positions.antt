-- The first place at which a test passes.
use Rattle.std.proofs.Common.{◌≡◌, ℕ, zero, suc, ◌+◌, ◌<◌, ◌≤◌, List, [], ◌∷◌, take, length, get_or, add-zero, Option, Some, None, Bool, true, false, cond, refl, ap, ◌∙◌, sym, arith}
use Rattle.std.specs.Prelude.{slice_get}
use Rattle.std.specs.Option.{option_or, is_some}
use Rattle.std.specs.List.{position_from}
use Rattle.std.proofs.lemmas.Bool.{ltb-true, ltb-false}
use Rattle.cg_model.specs.First.{first_from, first_such, is_before}
use Rattle.cg_model.proofs.Options.{cond_none}

option_or-cond : {X : Type 0} (b : Bool) (x : X) (o p : Option X) → cond b (Some x) (option_or o p) ≡ option_or (cond b (Some x) o) p
option_or-cond true x o p = refl
option_or-cond false x o p = refl

-- one more element, as at a step of a loop
pub position_from-more : {X : Type 0} (t : X → Bool) (i : ℕ) (xs : List X) (k : ℕ) (d : X) → k < length xs
    → position_from t i (take (k + 1) xs) ≡ option_or (position_from t i (take k xs)) (cond (t (get_or xs k d)) (Some (i + k)) None)
position_from-more t i [] k d h = absurd (omega arith)
position_from-more t i (x ∷ xs) zero d h = ap (λ j. cond (t x) (Some j) None) (sym (add-zero i))
position_from-more t i (x ∷ xs) (suc k) d h =
    let more : suc k + 1 ≡ suc (k + 1) = omega arith in
    let same : i + 1 + k ≡ i + suc k = omega arith in
    ap (λ n. position_from t i (take n (x ∷ xs))) more
    ∙ ap (cond (t x) (Some i)) (position_from-more t (i + 1) xs k d (omega arith) ∙ ap (λ j. option_or (position_from t (i + 1) (take k xs)) (cond (t (get_or xs k d)) (Some j) None)) same)
    ∙ option_or-cond (t x) i _ _

-- a first value that is there stays
pub kept_first : {X : Type 0} (o : Option X) (b : Bool) (x : X) → (b ≡ true → is_some o ≡ true) → o ≡ option_or o (cond b (Some x) None)
kept_first (Some y) b x h = refl
kept_first None false x h = refl
kept_first None true x h = let bad : false ≡ true = h refl in cc

-- where there is none, the new value comes
pub added_first : {X : Type 0} (o p : Option X) (b : Bool) (x : X) → p ≡ cond b (Some x) o → (b ≡ true → is_some o ≡ false) → p ≡ option_or o (cond b (Some x) None)
added_first (Some y) p false x e h = e
added_first None p false x e h = e
added_first None p true x e h = e
added_first (Some y) p true x e h = let bad : true ≡ false = h refl in cc

within_here : (b : Bool) (i n k : ℕ) (o : Option ℕ) → (o ≡ Some k → k < i + 1 + n) → cond b (Some i) o ≡ Some k → k < i + suc n
within_here true i n k o later e = let same : i ≡ k = cc in omega arith
within_here false i n k o later e = let h = later e in omega (arith, h)

-- an index is within the list
pub position_from-within : {X : Type 0} (t : X → Bool) (i : ℕ) (xs : List X) (k : ℕ) → position_from t i xs ≡ Some k → k < i + length xs
position_from-within t i [] k e = let bad : None ≡ Some k = e in absurd (cc)
position_from-within t i (x ∷ xs) k e = within_here (t x) i (length xs) k (position_from t (i + 1) xs) (position_from-within t (i + 1) xs k) e

-- where a test holds nowhere, it doesn't at j
pub first_from_none : {X : Type 0} (t : ℕ → X → Bool) (i : ℕ) (xs : List X) (k j : ℕ) (x : X) → first_from t i xs ≡ None → slice_get xs k ≡ Some x → j ≡ i + k → t j x ≡ false
first_from_none t i [] k j x none at here = let bad : None ≡ Some x = at in cc
first_from_none t i (y ∷ ys) zero j x none at here =
    let same : y ≡ x = cc in
    let begin : j ≡ i = omega arith in
    ap (λ n. t n x) begin ∙ ap (t i) (sym same) ∙ (cond_none (t i y) i _ none).0
first_from_none t i (y ∷ ys) (suc k) j x none at here = first_from_none t (i + 1) ys k j x (cond_none (t i y) i _ none).1 at (omega arith)

-- where no item passes a test, the one at k doesn't
pub first_such_none : {X : Type 0} (t : X → Bool) (xs : List X) (k : ℕ) (x : X) → first_such t xs ≡ None → slice_get xs k ≡ Some x → t x ≡ false
first_such_none t [] k x none at = let bad : None ≡ Some x = at in absurd (cc)
first_such_none t (y ∷ ys) zero x none at = let same : y ≡ x = cc in ap t (sym same) ∙ (cond_none (t y) y (first_such t ys) none).0
first_such_none t (y ∷ ys) (suc k) x none at = first_such_none t ys k x (cond_none (t y) y (first_such t ys) none).1 at

reached_later : (b : Bool) (i n u : ℕ) (o : Option ℕ) → o ≡ Some u → u ≤ n → i ≤ n → (v : ℕ) × ((cond b (Some i) o ≡ Some v) × (v ≤ n))
reached_later true i n u o e below within = (i, (refl, within))
reached_later false i n u o e below within = (u, (e, below))

-- the first index at which a test passes is at most one at which it does
pub position_from-reached : {X : Type 0} (t : X → Bool) (i : ℕ) (xs : List X) (k n : ℕ) (x : X) → slice_get xs k ≡ Some x → t x ≡ true → i + k ≤ n
    → (u : ℕ) × ((position_from t i xs ≡ Some u) × (u ≤ n))
position_from-reached t i [] k n x at passes le = let bad : None ≡ Some x = at in absurd (cc)
position_from-reached t i (y ∷ ys) zero n x at passes le =
    let same : y ≡ x = cc in
    let here : t y ≡ true = ap t same ∙ passes in
    (i, (ap (λ b. cond b (Some i) (position_from t (i + 1) ys)) here, omega arith))
position_from-reached t i (y ∷ ys) (suc k) n x at passes le =
    let later = position_from-reached t (i + 1) ys k n x at passes (omega arith) in
    reached_later (t y) i n later.0 _ later.1.0 later.1.1 (omega arith)

found_in : {X : Type 0} (b : Bool) (t : X → Bool) (i k : ℕ) (x : X) (xs : List X) (o : Option ℕ) → t x ≡ b → o ≡ position_from t (i + 1) xs
    → (position_from t (i + 1) xs ≡ Some k → (n : ℕ) × ((y : X) × ((k ≡ i + 1 + n) × ((slice_get xs n ≡ Some y) × (t y ≡ true)))))
    → cond b (Some i) o ≡ Some k → (n : ℕ) × ((y : X) × ((k ≡ i + n) × ((slice_get (x ∷ xs) n ≡ Some y) × (t y ≡ true))))
found_in true t i k x xs o is same later e = let here : i ≡ k = cc in (zero, (x, (omega arith, (refl, is))))
found_in false t i k x xs o is same later e = let l = later (sym same ∙ e) in (suc l.0, (l.1.0, (let h = l.1.1.0 in omega (arith, h), l.1.1.1)))

-- the index that was found is that of an element which passes
pub position_from-found : {X : Type 0} (t : X → Bool) (i : ℕ) (xs : List X) (k : ℕ) → position_from t i xs ≡ Some k → (n : ℕ) × ((x : X) × ((k ≡ i + n) × ((slice_get xs n ≡ Some x) × (t x ≡ true))))
position_from-found t i [] k e = let bad : None ≡ Some k = e in absurd (cc)
position_from-found t i (x ∷ xs) k e = found_in (t x) t i k x xs (position_from t (i + 1) xs) refl refl (position_from-found t (i + 1) xs k) e

-- ---- what was found before a place

pub before_at : (o : Option ℕ) (u v : ℕ) → o ≡ Some u → is_before o v ≡ true → u < v
before_at None u v e h = let bad : None ≡ Some u = e in absurd (cc)
before_at (Some u') u v e h = let same : u' ≡ u = cc in let lt = ltb-true u' v h in omega (arith, same, lt)

pub not_before : (o : Option ℕ) (u v : ℕ) → o ≡ Some u → is_before o v ≡ false → v ≤ u
not_before None u v e h = let bad : None ≡ Some u = e in absurd (cc)
not_before (Some u') u v e h = let same : u' ≡ u = cc in let le = ltb-false u' v h in omega (arith, same, le)
