-- Passes over lists of nodes and of differences.
use Rattle.std.proofs.Common.{◌≡◌, ℕ, zero, suc, ◌+◌, ◌-◌, ◌<◌, ◌≤◌, List, [], ◌∷◌, ◌++◌, ap, sym, ◌∙◌, subst, arith, append_assoc}
use Rattle.std.specs.Prelude.{flat_map, reverse}
use Rattle.std.specs.List.{range_with_len}
use Rattle.std.proofs.lemmas.List.{append-nil, reverse-append}
use Rattle.std.proofs.lemmas.List.Concat.{flat_map-append}
use Rattle.cg_model.specs.declared.kernel.OrderEdge.{OrderEdge}
use Rattle.cg_model.specs.Kernel.{Kernel}
use Rattle.cg_c_order.specs.Choosing.{Exceeds, Takes}
use Rattle.cg_c_order.proofs.Choices.{exceeds_part, exceeds_then, takes_then}

-- ---- ranges

range_split : (a m n : ℕ) → range_with_len a (m + n) ≡ range_with_len a m ++ range_with_len (a + m) n
range_split a zero n = let e : a ≡ a + 0 = omega arith in let z : 0 + n ≡ n = omega arith in ap (range_with_len a) z ∙ ap (λ x. range_with_len x n) e
range_split a (suc m) n =
    let e : suc m + n ≡ suc (m + n) = omega arith in
    let z : a + 1 + m ≡ a + suc m = omega arith in
    ap (range_with_len a) e ∙ ap (λ xs. a ∷ xs) (range_split (a + 1) m n ∙ ap (λ x. range_with_len (a + 1) m ++ range_with_len x n) z)

-- the numbers before x, x, and those after it
range_at : (a n x : ℕ) → a ≤ x → x < a + n → range_with_len a n ≡ range_with_len a (x - a) ++ x ∷ range_with_len (x + 1) (a + n - suc x)
range_at a n x la lx =
    let e : n ≡ (x - a) + suc (a + n - suc x) = omega arith in
    let z : a + (x - a) ≡ x = omega arith in
    ap (range_with_len a) e ∙ range_split a (x - a) (suc (a + n - suc x)) ∙ ap (λ y. range_with_len a (x - a) ++ range_with_len y (suc (a + n - suc x))) z

range_next : (a x : ℕ) → a ≤ x → range_with_len a (x + 1 - a) ≡ range_with_len a (x - a) ++ x ∷ []
range_next a x l =
    let e : x + 1 - a ≡ (x - a) + 1 = omega arith in
    let z : a + (x - a) ≡ x = omega arith in
    ap (range_with_len a) e ∙ range_split a (x - a) 1 ∙ ap (λ y. range_with_len a (x - a) ++ range_with_len y 1) z

-- ---- passes over any list

module _ (f : ℕ → List OrderEdge) (K L : Kernel) (xs : List ℕ) (x : ℕ) (done : Takes K (flat_map f xs) L) where
  takes_next : (M : Kernel) → Takes L (f x) M → Takes K (flat_map f (xs ++ x ∷ [])) M
  takes_next M t =
      let e : flat_map f xs ++ f x ≡ flat_map f (xs ++ x ∷ []) = sym (flat_map-append f xs (x ∷ []) ∙ ap (λ z. flat_map f xs ++ z) (append-nil (f x))) in
      subst (λ z. Takes K z M) e (takes_then K L M (flat_map f xs) (f x) done t)

  exceeds_at : (ys : List ℕ) → Exceeds L (f x) → Exceeds K (flat_map f (xs ++ x ∷ ys))
  exceeds_at ys h =
      subst (Exceeds K) (sym (flat_map-append f xs (x ∷ ys)))
      (exceeds_then K L (flat_map f xs) (f x ++ flat_map f ys) done (exceeds_part L (f x) (flat_map f ys) h))

-- ---- rising passes from a on

module _ (f : ℕ → List OrderEdge) (K L : Kernel) (a x : ℕ) (la : a ≤ x) (done : Takes K (flat_map f (range_with_len a (x - a))) L) where
  pub rising_next : (M : Kernel) → Takes L (f x) M → Takes K (flat_map f (range_with_len a (x + 1 - a))) M
  rising_next M t = subst (λ z. Takes K (flat_map f z) M) (sym (range_next a x la)) (takes_next f K L (range_with_len a (x - a)) x done M t)

  pub rising_exceeds : (n : ℕ) → x < a + n → Exceeds L (f x) → Exceeds K (flat_map f (range_with_len a n))
  rising_exceeds n l h = subst (λ z. Exceeds K (flat_map f z)) (sym (range_at a n x la l)) (exceeds_at f K L (range_with_len a (x - a)) x done (range_with_len (x + 1) (a + n - suc x)) h)

-- ---- falling passes from the end, below n, down to x

falling_back : (x r : ℕ) → reverse (range_with_len x (suc r)) ≡ reverse (range_with_len (x + 1) r) ++ x ∷ []
falling_back x r = reverse-append (x ∷ []) (range_with_len (x + 1) r)

module _ (f : ℕ → List OrderEdge) (K L : Kernel) (n x : ℕ) (lx : x < n) (done : Takes K (flat_map f (reverse (range_with_len (x + 1) (n - (x + 1))))) L) where
  rest : suc (n - (x + 1)) ≡ n - x
  rest = omega arith

  pub falling_next : (M : Kernel) → Takes L (f x) M → Takes K (flat_map f (reverse (range_with_len x (n - x)))) M
  falling_next M t =
      subst (λ z. Takes K (flat_map f (reverse (range_with_len x z))) M) rest
      (subst (λ z. Takes K (flat_map f z) M) (sym (falling_back x (n - (x + 1)))) (takes_next f K L (reverse (range_with_len (x + 1) (n - (x + 1)))) x done M t))

  pub falling_exceeds : (a : ℕ) → a ≤ x → Exceeds L (f x) → Exceeds K (flat_map f (reverse (range_with_len a (n - a))))
  falling_exceeds a la h =
      let xs = reverse (range_with_len (x + 1) (n - (x + 1))) in
      let ys = reverse (range_with_len a (x - a)) in
      let e : range_with_len a (n - a) ≡ range_with_len a (x - a) ++ range_with_len x (n - x) = split in
      let all : reverse (range_with_len a (n - a)) ≡ xs ++ x ∷ ys =
      ap reverse e ∙ reverse-append (range_with_len a (x - a)) (range_with_len x (n - x)) ∙ ap (λ z. reverse (range_with_len x z) ++ ys) (sym rest) ∙ ap (λ z. z ++ ys) (falling_back x (n - (x + 1))) ∙ append_assoc xs (x ∷ []) ys in
      subst (λ z. Exceeds K (flat_map f z)) (sym all) (exceeds_at f K L xs x done ys h)
    where
      split : range_with_len a (n - a) ≡ range_with_len a (x - a) ++ range_with_len x (n - x)
      split =
          let s : n - a ≡ (x - a) + (n - x) = omega arith in
          let z : a + (x - a) ≡ x = omega arith in
          ap (range_with_len a) s ∙ range_split a (x - a) (n - x) ∙ ap (λ y. range_with_len a (x - a) ++ range_with_len y (n - x)) z
