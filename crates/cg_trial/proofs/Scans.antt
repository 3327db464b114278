-- What scans find in lists that begin with items made of the numbers of a range.
use Rattle.std.proofs.Common.{◌≡◌, ℕ, zero, suc, ◌+◌, ◌<◌, ◌≤◌, ◌||◌, Bool, true, false, cond, List, [], ◌∷◌, ◌++◌, Option, Some, None, refl, ap, ap₂, sym, ◌∙◌, arith, ⊎_elim}
use Rattle.std.specs.Prelude.{map, flat_map}
use Rattle.std.specs.List.{range_with_len, position_from, list_any}
use Rattle.std.proofs.lemmas.Bool.{cases_lt}
use Rattle.cg_model.specs.First.{first_from, first_such}

-- a test that fails is passed by
pub past : {Y : Type 0} (b : Bool) (x y : Y) → b ≡ false → cond b x y ≡ y
past b x y e = rw e refl

pub taken : {Y : Type 0} (b : Bool) (x y : Y) → b ≡ true → cond b x y ≡ x
taken b x y e = rw e refl

module _ {X : Type 0} (f : ℕ → X) where
  pub first_from_range : (t : ℕ → X → Bool) (a n m : ℕ) (ys : List X) → m ≡ a + n → ((k : ℕ) → a ≤ k → k < m → t k (f k) ≡ false)
      → first_from t a (map f (range_with_len a n) ++ ys) ≡ first_from t m ys
  first_from_range t a zero m ys e h = let s : a ≡ m = omega arith in ap (λ z. first_from t z ys) s
  first_from_range t a (suc n) m ys e h =
      past (t a (f a)) (Some a) (first_from t (a + 1) (map f (range_with_len (a + 1) n) ++ ys)) (h a (omega arith) (omega arith))
      ∙ first_from_range t (a + 1) n m ys (omega arith) (λ k l u. h k (omega arith) u)

  pub position_from_range : (t : X → Bool) (a n m : ℕ) (ys : List X) → m ≡ a + n → ((k : ℕ) → a ≤ k → k < m → t (f k) ≡ false)
      → position_from t a (map f (range_with_len a n) ++ ys) ≡ position_from t m ys
  position_from_range t a zero m ys e h = let s : a ≡ m = omega arith in ap (λ z. position_from t z ys) s
  position_from_range t a (suc n) m ys e h =
      past (t (f a)) (Some a) (position_from t (a + 1) (map f (range_with_len (a + 1) n) ++ ys)) (h a (omega arith) (omega arith))
      ∙ position_from_range t (a + 1) n m ys (omega arith) (λ k l u. h k (omega arith) u)

  pub position_from_found : (t : X → Bool) (a n k : ℕ) (ys : List X) → a ≤ k → k < a + n → ((j : ℕ) → a ≤ j → j < k → t (f j) ≡ false) → t (f k) ≡ true
      → position_from t a (map f (range_with_len a n) ++ ys) ≡ Some k
  position_from_found t a zero k ys l u before here = absurd (omega arith)
  position_from_found t a (suc n) k ys l u before here =
      ⊎_elim
      (λ b. past (t (f a)) (Some a) (position_from t (a + 1) (map f (range_with_len (a + 1) n) ++ ys)) (before a (omega arith) b)
      ∙ position_from_found t (a + 1) n k ys (omega arith) (omega arith) (λ j l' u'. before j (omega arith) u') here)
      (λ b. let s : k ≡ a = omega arith in
      taken (t (f a)) (Some a) (position_from t (a + 1) (map f (range_with_len (a + 1) n) ++ ys)) (ap (λ z. t (f z)) (sym s) ∙ here) ∙ ap Some (sym s))
      (cases_lt a k)

  pub first_such_range : (t : X → Bool) (a n : ℕ) → ((k : ℕ) → a ≤ k → k < a + n → t (f k) ≡ false) → first_such t (map f (range_with_len a n)) ≡ None
  first_such_range t a zero h = refl
  first_such_range t a (suc n) h =
      past (t (f a)) (Some (f a)) (first_such t (map f (range_with_len (a + 1) n))) (h a (omega arith) (omega arith))
      ∙ first_such_range t (a + 1) n (λ k l u. h k (omega arith) (omega arith))

  -- each makes one item
  pub flat_map_range : {Y : Type 0} (g : X → List Y) (e : ℕ → Y) (a n : ℕ) (ys : List X) → ((k : ℕ) → g (f k) ≡ e k ∷ [])
      → flat_map g (map f (range_with_len a n) ++ ys) ≡ map e (range_with_len a n) ++ flat_map g ys
  flat_map_range g e a zero ys h = refl
  flat_map_range g e a (suc n) ys h =
      ap (λ z. z ++ flat_map g (map f (range_with_len (a + 1) n) ++ ys)) (h a) ∙ ap (λ z. e a ∷ z) (flat_map_range g e (a + 1) n ys h)

none_by : {X : Type 0} (b : Bool) (x : X) (o p : Option X) → cond b (Some x) o ≡ None → (o ≡ None → p ≡ None) → cond b (Some x) p ≡ None
none_by true x o p e h = let bad : Some x ≡ None = e in absurd (cc)
none_by false x o p e h = h e

pub first_such-append : {X : Type 0} (t : X → Bool) (xs ys : List X) → first_such t xs ≡ None → first_such t ys ≡ None → first_such t (xs ++ ys) ≡ None
first_such-append t [] ys e h = h
first_such-append t (x ∷ xs) ys e h = none_by (t x) x (first_such t xs) (first_such t (xs ++ ys)) e (λ g. first_such-append t xs ys g h)

any_by : (b c d : Bool) → (b || c) ≡ false → (c ≡ false → d ≡ false) → (b || d) ≡ false
any_by true c d e h = e
any_by false c d e h = h e

-- no item passes a test where none of a list does, nor the one after it
pub any_last : {X : Type 0} (t : X → Bool) (xs : List X) (x : X) → list_any t xs ≡ false → t x ≡ false → list_any t (xs ++ x ∷ []) ≡ false
any_last t [] x e h = rw h refl
any_last t (y ∷ ys) x e h = any_by (t y) (list_any t ys) (list_any t (ys ++ x ∷ [])) e (λ g. any_last t ys x g h)

-- one more number
pub range_more : (a n j : ℕ) → a + n ≡ j → range_with_len a (n + 1) ≡ range_with_len a n ++ j ∷ []
range_more a zero j e = let s : a ≡ j = omega arith in ap (λ z. z ∷ []) s
range_more a (suc n) j e = let s : suc n + 1 ≡ suc (n + 1) = omega arith in ap (range_with_len a) s ∙ ap (λ z. a ∷ z) (range_more (a + 1) n j (omega arith))

module _ {X Y : Type 0} (g : X → Y) (f : ℕ → X) where
  -- what is made of each of them
  pub map_map : (e : ℕ → Y) (a n : ℕ) → ((k : ℕ) → g (f k) ≡ e k) → map g (map f (range_with_len a n)) ≡ map e (range_with_len a n)
  map_map e a zero h = refl
  map_map e a (suc n) h = ap₂ (λ x xs. x ∷ xs) (h a) (map_map e (a + 1) n h)

-- the numbers again
pub map_map_itself : {X : Type 0} (g : X → ℕ) (f : ℕ → X) (a n : ℕ) → ((k : ℕ) → a ≤ k → k < a + n → g (f k) ≡ k) → map g (map f (range_with_len a n)) ≡ range_with_len a n
map_map_itself g f a zero h = refl
map_map_itself g f a (suc n) h = ap₂ (λ x xs. x ∷ xs) (h a (omega arith) (omega arith)) (map_map_itself g f (a + 1) n (λ k l u. h k (omega arith) (omega arith)))
