-- Which registers a resource drives.
use Rattle.std.proofs.Common.{◌≡◌, ℕ, zero, suc, ◌<◌, ◌≤◌, eqb, Bool, true, false, if◌then◌else◌, List, [], ◌∷◌, ◌++◌, length, get_or, append-nil, refl, sym, subst, arith, ⊎_elim, eqb-true}
use Rattle.std.specs.Prelude.{AllPairs, Contains, filter}
use Rattle.std.specs.List.{list_any}
use Rattle.std.proofs.lemmas.Bool.{cases_lt, cases_Bool, eq-eqb, or_right}
use Rattle.std.proofs.lemmas.List.Elements.{filter-append, Contains-get_or, Contains-append_left, Contains-append_right, Contains-append_cases}
use Rattle.std.proofs.lemmas.List.Kept.{AllPairs-filter}
use Rattle.std.proofs.lemmas.List.Quantifiers.{all_pairs_push}
use Rattle.std.proofs.lemmas.Map.Views.{Contains-from_any}
use Rattle.cg_model.specs.Array.{Arch, resource, delay}
use Rattle.cg_mrrg.specs.Graph.{users_below, users, registers_after}
use Rattle.cg_model.proofs.Lookups.{Contains-nil}

pub any_at : (ds : List ℕ) (i q d : ℕ) → i < length ds → get_or ds i d ≡ q → list_any (eqb q) ds ≡ true
any_at [] i q d h e = absurd (omega arith)
any_at (x ∷ ds) zero q d h e = rw (eq-eqb q x (sym e)) refl
any_at (x ∷ ds) (suc i) q d h e = or_right (eqb q x) _ (any_at ds i q d (omega arith) e)

-- the tests for a driver and for what stands in a list
pub any_driver : (ds : List ℕ) (q : ℕ) → Contains ds q → list_any (eqb q) ds ≡ true
any_driver ds q m = any_at ds m.0 q q m.1 m.2

pub is_driver : (ds : List ℕ) (q : ℕ) → list_any (eqb q) ds ≡ true → Contains ds q
is_driver ds q t = Contains-from_any (λ x y. eqb-true x y) q ds t

one_in : (r x : ℕ) → Contains (r ∷ []) x → r ≡ x
one_in r x (zero, l, e) = e
one_in r x (suc i, l, e) = absurd (omega arith)

one_if : (b : Bool) (r x : ℕ) → Contains (if b then r ∷ [] else []) x → r ≡ x
one_if true r x m = one_in r x m
one_if false r x m = absurd (Contains-nil x m)

push_if : (b : Bool) (r : ℕ) (xs : List ℕ) → AllPairs (λ x y. x < y) xs → ((x : ℕ) → Contains xs x → x < r) → AllPairs (λ x y. x < y) (xs ++ (if b then r ∷ [] else []))
push_if true r xs h less = all_pairs_push (λ x y. x < y) xs r h (λ i d l. less (get_or xs i d) (Contains-get_or xs i d l))
push_if false r xs h less = subst (λ l. AllPairs (λ x y. x < y) l) (sym (append-nil xs)) h

module _ (A : Arch) (q : ℕ) where
  abbrev registers_below : ℕ → List ℕ
  registers_below n = filter (λ r. eqb (delay A r) 1) (users_below A q n)

  -- r, where q drives it and it is a register
  abbrev last : ℕ → List ℕ
  last r = filter (λ r. eqb (delay A r) 1) (if list_any (eqb q) (resource A r).drivers then r ∷ [] else [])

  next : (r : ℕ) → registers_below (suc r) ≡ registers_below r ++ last r
  unfolding users_below
  next r = filter-append (λ r. eqb (delay A r) 1) (users_below A q r) (if list_any (eqb q) (resource A r).drivers then r ∷ [] else [])

  last_in : (r : ℕ) → Contains (resource A r).drivers q → delay A r ≡ 1 → Contains (last r) r
  last_in r m one = rw (any_driver (resource A r).drivers q m, eq-eqb (delay A r) 1 one) (0, omega arith, refl)

  last_of : (r x : ℕ) → Contains (last r) x → (r ≡ x) × Contains (resource A r).drivers q × (delay A r ≡ 1)
  last_of r x m =
      ⊎_elim
      (λ (a : list_any (eqb q) (resource A r).drivers ≡ true).
      ⊎_elim
      (λ (b : eqb (delay A r) 1 ≡ true). (one_in r x (rw (a, b) at m), is_driver (resource A r).drivers q a, eqb-true (delay A r) 1 b))
      (λ (b : eqb (delay A r) 1 ≡ false). absurd (Contains-nil x (rw (a, b) at m)))
      (cases_Bool (eqb (delay A r) 1)))
      (λ (a : list_any (eqb q) (resource A r).drivers ≡ false). absurd (Contains-nil x (rw a at m)))
      (cases_Bool (list_any (eqb q) (resource A r).drivers))

  in_below : (n x : ℕ) → x < n → Contains (resource A x).drivers q → delay A x ≡ 1 → Contains (registers_below n) x
  in_below zero x h m one = absurd (omega arith)
  in_below (suc n) x h m one =
      ⊎_elim
      (λ (a : x < n). subst (λ l. Contains l x) (sym (next n)) (Contains-append_left (registers_below n) (last n) x (in_below n x a m one)))
      (λ (a : n ≤ x).
      let e : n ≡ x = omega arith in
      subst (λ l. Contains l x) (sym (next n)) (Contains-append_right (registers_below n) (last n) x (subst (λ y. Contains (last y) x) (sym e) (last_in x m one))))
      (cases_lt x n)

  of_below : (n x : ℕ) → Contains (registers_below n) x → Contains (resource A x).drivers q × (delay A x ≡ 1)
  unfolding users_below
  of_below zero x m = absurd (Contains-nil x m)
  of_below (suc n) x m =
      ⊎_elim (λ a. of_below n x a)
      (λ a. let p = last_of n x a in subst (λ y. Contains (resource A y).drivers q × (delay A y ≡ 1)) p.0 (p.1, p.2))
      (Contains-append_cases (registers_below n) (last n) x (subst (λ l. Contains l x) (next n) m))

  -- the registers that q drives are listed, and no others
  pub is_after : (x : ℕ) → x < length A.resources → Contains (resource A x).drivers q → delay A x ≡ 1 → Contains (registers_after A q) x
  is_after x h m one = in_below (length A.resources) x h m one

  pub after_is : (x : ℕ) → Contains (registers_after A q) x → Contains (resource A x).drivers q × (delay A x ≡ 1)
  after_is x m = of_below (length A.resources) x m

  users_less : (n x : ℕ) → Contains (users_below A q n) x → x < n
  unfolding users_below
  users_less zero x m = absurd (Contains-nil x m)
  users_less (suc n) x m =
      ⊎_elim (λ a. let l = users_less n x a in omega (arith, l)) (λ a. let e = one_if (list_any (eqb q) (resource A n).drivers) n x a in omega (arith, e))
      (Contains-append_cases (users_below A q n) (if list_any (eqb q) (resource A n).drivers then n ∷ [] else []) x m)

  users_ascend : (n : ℕ) → AllPairs (λ x y. x < y) (users_below A q n)
  unfolding users_below
  users_ascend zero = λ i j d a b. absurd (omega (arith, b))
  users_ascend (suc n) = push_if (list_any (eqb q) (resource A n).drivers) n (users_below A q n) (users_ascend n) (users_less n)

  -- they are listed in ascending order
  pub after_ascends : AllPairs (λ x y. x < y) (registers_after A q)
  after_ascends = AllPairs-filter (λ x y. x < y) (λ r. eqb (delay A r) 1) (users A q) (users_ascend (length A.resources))
