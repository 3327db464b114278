-- What is found in lists, and how often.
use Rattle.std.proofs.Common.{◌≡◌, ℕ, zero, suc, ◌+◌, ◌<◌, ◌⊎◌, inl, inr, Bool, true, false, cond, List, [], ◌∷◌, length, map, get_or, Option, Some, None, refl, ap, sym, ◌∙◌, subst, arith, ⊎_elim}
use Rattle.std.specs.Prelude.{Contains, find, count_by, flat_map, bytes_eq}
use Rattle.std.proofs.lemmas.Bool.{cond_both, true≢false}
use Rattle.std.proofs.lemmas.List.Sums.{sum_by-cons}
use Rattle.std.proofs.lemmas.List.Elements.{Contains-append_left, Contains-append_right, Contains-append_cases}
use Rattle.std.proofs.lemmas.Slice.Eq.{bytes_eq-Decides}
use Rattle.cg_model.proofs.Lookups.{Contains-nil}

pub same_text : (a b : List ℕ) → bytes_eq a b ≡ true → a ≡ b
same_text a b e = (bytes_eq-Decides a b).0 e

pub text_same : (a b : List ℕ) → a ≡ b → bytes_eq a b ≡ true
text_same a b e = (bytes_eq-Decides a b).1 e

-- ---- elements

pub Contains-first : {X : Type 0} (x : X) (xs : List X) → Contains (x ∷ xs) x
Contains-first x xs = (0, omega arith, refl)

pub Contains-later : {X : Type 0} (x y : X) (xs : List X) → Contains xs x → Contains (y ∷ xs) x
Contains-later x y xs h = (suc h.0, omega (arith, h.1), h.2)

pub Contains-cases : {X : Type 0} (x y : X) (xs : List X) → Contains (y ∷ xs) x → (y ≡ x) ⊎ Contains xs x
Contains-cases x y xs (zero, l, e) = inl e
Contains-cases x y xs (suc k, l, e) = inr (k, omega (arith, l), e)

pub Contains-flat_map : {X Y : Type 0} (f : X → List Y) (xs : List X) (x : X) (y : Y) → Contains xs x → Contains (f x) y → Contains (flat_map f xs) y
Contains-flat_map f [] x y h k = absurd (Contains-nil x h)
Contains-flat_map f (z ∷ xs) x y h k =
    ⊎_elim (λ e. Contains-append_left (f z) (flat_map f xs) y (rw e k)) (λ l. Contains-append_right (f z) (flat_map f xs) y (Contains-flat_map f xs x y l k)) (Contains-cases x z xs h)

pub Contains-flat_map_from : {X Y : Type 0} (f : X → List Y) (xs : List X) (y : Y) → Contains (flat_map f xs) y → (x : X) × Contains xs x × Contains (f x) y
Contains-flat_map_from f [] y h = absurd (Contains-nil y h)
Contains-flat_map_from f (z ∷ xs) y h =
    ⊎_elim (λ l. (z, Contains-first z xs, l)) (λ l. let (x, a, b) = Contains-flat_map_from f xs y l in (x, Contains-later x z xs a, b)) (Contains-append_cases (f z) (flat_map f xs) y h)

pub Contains-map : {X Y : Type 0} (f : X → Y) (xs : List X) (x : X) → Contains xs x → Contains (map f xs) (f x)
Contains-map f [] x m = absurd (Contains-nil x m)
Contains-map f (y ∷ xs) x m =
    ⊎_elim (λ e. let P : _ → Type 0 = λ z. Contains (f y ∷ map f xs) (f z) in subst P e (Contains-first (f y) (map f xs))) (λ l. Contains-later (f x) (f y) (map f xs) (Contains-map f xs x l)) (Contains-cases x y xs m)

pub Contains-map_from : {X Y : Type 0} (f : X → Y) (xs : List X) (y : Y) → Contains (map f xs) y → (x : X) × Contains xs x × (y ≡ f x)
Contains-map_from f [] y m = absurd (Contains-nil y m)
Contains-map_from f (x ∷ xs) y m =
    ⊎_elim (λ e. (x, Contains-first x xs, sym e)) (λ l. let (z, a, b) = Contains-map_from f xs y l in (z, Contains-later z x xs a, b)) (Contains-cases y (f x) (map f xs) m)

-- ---- the first that passes a test

pub find_from : {X : Type 0} (t : X → Bool) (xs : List X) (x : X) → find t xs ≡ Some x → Contains xs x × (t x ≡ true)
find_from t [] x e = let bad : None ≡ Some x = e in absurd (cc)
find_from {X} t (y ∷ ys) x e =
    let P : Option X → Type 0 = λ z. z ≡ Some x → Contains (y ∷ ys) x × (t x ≡ true) in
    (cond_both (t y) (Some y) (find t ys) P
    (λ passes e. let same : y ≡ x = cc in (subst (Contains (y ∷ ys)) same (Contains-first y ys), ap t (sym same) ∙ passes))
    (λ fails e. let (a, b) = find_from t ys x e in (Contains-later x y ys a, b))) e

pub find_none : {X : Type 0} (t : X → Bool) (xs : List X) (x : X) → find t xs ≡ None → Contains xs x → t x ≡ false
find_none t [] x e m = absurd (Contains-nil x m)
find_none {X} t (y ∷ ys) x e m =
    let P : Option X → Type 0 = λ z. z ≡ None → t x ≡ false in
    (cond_both (t y) (Some y) (find t ys) P
    (λ passes e. let bad : Some y ≡ None = e in absurd (cc))
    (λ fails e. ⊎_elim (λ same. ap t (sym same) ∙ fails) (λ l. find_none t ys x e l) (Contains-cases x y ys m))) e

pub none_found : {X : Type 0} (t : X → Bool) (xs : List X) → ((x : X) → Contains xs x → t x ≡ false) → find t xs ≡ None
none_found t [] h = refl
none_found t (y ∷ ys) h = ap (λ b. cond b (Some y) (find t ys)) (h y (Contains-first y ys)) ∙ none_found t ys (λ x m. h x (Contains-later x y ys m))

-- the only one that passes
pub find_only : {X : Type 0} (t : X → Bool) (xs : List X) (x : X) → Contains xs x → t x ≡ true → ((y : X) → Contains xs y → t y ≡ true → y ≡ x) → find t xs ≡ Some x
find_only t [] x m e only = absurd (Contains-nil x m)
find_only {X} t (y ∷ ys) x m e only =
    let P : Option X → Type 0 = λ z. z ≡ Some x in
    cond_both (t y) (Some y) (find t ys) P
    (λ passes. ap Some (only y (Contains-first y ys) passes))
    (λ fails. ⊎_elim (λ same. absurd (true≢false (sym e ∙ ap t (sym same) ∙ fails))) (λ l. find_only t ys x l e (λ z k f. only z (Contains-later z y ys k) f)) (Contains-cases x y ys m))

-- ---- how many pass a test

count_more : {X : Type 0} (t : X → Bool) (x : X) (xs : List X) → count_by t (x ∷ xs) ≡ cond (t x) 1 0 + count_by t xs
count_more t x xs = sum_by-cons (λ y. cond (t y) 1 0) x xs

counts_true : {X : Type 0} (t : X → Bool) (x : X) (xs : List X) → t x ≡ true → count_by t (x ∷ xs) ≡ 1 + count_by t xs
counts_true t x xs e = count_more t x xs ∙ ap (λ b. cond b 1 0 + count_by t xs) e

counts_false : {X : Type 0} (t : X → Bool) (x : X) (xs : List X) → t x ≡ false → count_by t (x ∷ xs) ≡ count_by t xs
counts_false t x xs e = let zero_more : 0 + count_by t xs ≡ count_by t xs = omega arith in count_more t x xs ∙ ap (λ b. cond b 1 0 + count_by t xs) e ∙ zero_more

pub count_none : {X : Type 0} (t : X → Bool) (xs : List X) (k : ℕ) (d : X) → count_by t xs ≡ 0 → k < length xs → t (get_or xs k d) ≡ false
count_none t [] k d e l = absurd (omega arith)
count_none t (x ∷ xs) k d e l = by (t x) refl k l (λ j f m. count_none t xs j d f m)
  where
    by : (b : Bool) → t x ≡ b → (k : ℕ) → k < length (x ∷ xs) → ((j : ℕ) → count_by t xs ≡ 0 → j < length xs → t (get_or xs j d) ≡ false) → t (get_or (x ∷ xs) k d) ≡ false
    by true is k l later = absurd (omega (arith, counts_true t x xs is, e))
    by false is zero l later = is
    by false is (suc k) l later = later k (sym (counts_false t x xs is) ∙ e) (omega arith)

pub none_count : {X : Type 0} (t : X → Bool) (xs : List X) (d : X) → ((k : ℕ) → k < length xs → t (get_or xs k d) ≡ false) → count_by t xs ≡ 0
none_count t [] d h = refl
none_count t (x ∷ xs) d h = counts_false t x xs (h 0 (omega arith)) ∙ none_count t xs d (λ k l. h (suc k) (omega arith))

-- place k is the only one that passes
pub record IsOnly {X : Type 0} (t : X → Bool) (xs : List X) (d : X) (k : ℕ) : Type 0 where
  pub within : k < length xs
  pub passes : t (get_or xs k d) ≡ true
  pub only : (j : ℕ) → j < length xs → t (get_or xs j d) ≡ true → j ≡ k

pub count_one : {X : Type 0} (t : X → Bool) (xs : List X) (d : X) → count_by t xs ≡ 1 → (k : ℕ) × IsOnly t xs d k
count_one t [] d e = let none : count_by t [] ≡ 0 = refl in absurd (omega arith)
count_one t (x ∷ xs) d e = by (t x) refl (λ f. count_one t xs d f)
  where
    first : t x ≡ true → (j : ℕ) → j < length (x ∷ xs) → t (get_or (x ∷ xs) j d) ≡ true → j ≡ 0
    first is zero l f = refl
    first is (suc j) l f = absurd (true≢false (sym f ∙ count_none t xs j d (omega (arith, counts_true t x xs is, e)) (omega arith)))

    rest : t x ≡ false → (k : ℕ) → IsOnly t xs d k → (j : ℕ) → j < length (x ∷ xs) → t (get_or (x ∷ xs) j d) ≡ true → j ≡ suc k
    rest is k o zero l f = absurd (true≢false (sym f ∙ is))
    rest is k o (suc j) l f = ap suc (o.only j (omega arith) f)

    by : (b : Bool) → t x ≡ b → (count_by t xs ≡ 1 → (k : ℕ) × IsOnly t xs d k) → (k : ℕ) × IsOnly t (x ∷ xs) d k
    by true is later = (0, record { within = omega arith; passes = is; only = first is })
    by false is later =
        let (k, o) = later (sym (counts_false t x xs is) ∙ e) in
        let within : k < length xs = o.within in
        (suc k, record { within = omega arith; passes = o.passes; only = rest is k o })

pub one_count : {X : Type 0} (t : X → Bool) (xs : List X) (d : X) (k : ℕ) → IsOnly t xs d k → count_by t xs ≡ 1
one_count t [] d k o = let bad : k < 0 = o.within in absurd (omega arith)
one_count t (x ∷ xs) d zero o =
    let none : count_by t xs ≡ 0 = none_count t xs d (λ j l. by j l (t (get_or xs j d)) refl) in
    omega (arith, counts_true t x xs o.passes, none)
  where
    by : (j : ℕ) → j < length xs → (b : Bool) → t (get_or xs j d) ≡ b → t (get_or xs j d) ≡ false
    by j l true is = let bad : suc j ≡ 0 = o.only (suc j) (omega arith) is in absurd (omega arith)
    by j l false is = is
one_count t (x ∷ xs) d (suc k) o =
    counts_false t x xs (by (t x) refl) ∙ one_count t xs d k (record { within = let w : suc k < length (x ∷ xs) = o.within in omega arith; passes = o.passes; only = λ j l f. let same : suc j ≡ suc k = o.only (suc j) (omega arith) f in omega arith })
  where
    by : (b : Bool) → t x ≡ b → t x ≡ false
    by true is = let bad : 0 ≡ suc k = o.only 0 (omega arith) is in absurd (omega arith)
    by false is = is
