-- A least path is found, or there is none: where the paths are no longer than some length, and on resources
-- below some number.
use Rattle.std.proofs.Common.{◌≡◌, ℕ, zero, suc, ◌+◌, ◌-◌, ◌<◌, ◌≤◌, List, [], ◌∷◌, length, Option, Some, None, refl, sym, ◌∙◌, subst, arith, inl, inr, ⊎_elim}
use Rattle.std.specs.Prelude.{◌⊎◌, All, Contains, slice_index_or}
use Rattle.std.proofs.lemmas.Bool.{cases_eq, cases_lt, cases_order}
use Rattle.std.proofs.lemmas.List.Elements.{All-head, All-tail}
use Rattle.cg_model.specs.Array.{Arch, resource, delay}
use Rattle.cg_model.specs.Mapping.{Goes}
use Rattle.cg_congestion.specs.Table.{Table}
use Rattle.cg_route.specs.Prices.{price}
use Rattle.cg_route.specs.Least.{Ends, IsTimedPath, IsNotAfter, IsAtMost, AreNear, IsFound, longest}

-- ---- least elements

-- nothing has the property, or there is a least thing that has it
abbrev Best : (List ℕ → List ℕ → Type 0) → (List ℕ → Type 0) → Type 0
Best R P = ((xs : List ℕ) → P xs → ⊥) ⊎ ((b : List ℕ) × P b × ((xs : List ℕ) → P xs → R b xs))

-- each of the two comes before the other, or both
abbrev IsTotal : (List ℕ → List ℕ → Type 0) → Type 0
IsTotal R = (xs ys : List ℕ) → R xs ys ⊎ R ys xs

abbrev IsTransitive : (List ℕ → List ℕ → Type 0) → Type 0
IsTransitive R = (xs ys zs : List ℕ) → R xs ys → R ys zs → R xs zs

-- it is known of each whether it has the property
abbrev IsDecided : (List ℕ → Type 0) → Type 0
IsDecided P = (xs : List ℕ) → P xs ⊎ (P xs → ⊥)

module _ (R : List ℕ → List ℕ → Type 0) (total : IsTotal R) (through : IsTransitive R) where
  itself : (xs : List ℕ) → R xs xs
  itself xs = ⊎_elim (λ a. a) (λ a. a) (total xs xs)

  -- the least of two sets
  join : (P Q S : List ℕ → Type 0) → ((xs : List ℕ) → S xs → P xs ⊎ Q xs) → ((xs : List ℕ) → P xs → S xs) → ((xs : List ℕ) → Q xs → S xs) → Best R P → Best R Q → Best R S
  join P Q S parts p q (inl a) (inl b) = inl (λ xs h. ⊎_elim (λ c. a xs c) (λ c. b xs c) (parts xs h))
  join P Q S parts p q (inl a) (inr b) = inr (b.0, q b.0 b.1, λ xs h. ⊎_elim (λ c. absurd (a xs c)) (λ c. b.2 xs c) (parts xs h))
  join P Q S parts p q (inr a) (inl b) = inr (a.0, p a.0 a.1, λ xs h. ⊎_elim (λ c. a.2 xs c) (λ c. absurd (b xs c)) (parts xs h))
  join P Q S parts p q (inr a) (inr b) =
      ⊎_elim
      (λ less. inr (a.0, p a.0 a.1, λ xs h. ⊎_elim (λ c. a.2 xs c) (λ c. through a.0 b.0 xs less (b.2 xs c)) (parts xs h)))
      (λ less. inr (b.0, q b.0 b.1, λ xs h. ⊎_elim (λ c. through b.0 a.0 xs less (a.2 xs c)) (λ c. b.2 xs c) (parts xs h)))
      (total a.0 b.0)

-- numbers below r
abbrev pub AreBelow : ℕ → List ℕ → Type 0
AreBelow r [] = Unit {0}
AreBelow r (x ∷ xs) = (x < r) × AreBelow r xs

pub below_all : (r : ℕ) (xs : List ℕ) → All (λ x. x < r) xs → AreBelow r xs
below_all r [] h = tt
below_all r (x ∷ xs) h = (All-head (λ y. y < r) x xs h, below_all r xs (All-tail (λ y. y < r) x xs h))

-- the lists of at most n numbers below r that have the property
abbrev Within : ℕ → ℕ → (List ℕ → Type 0) → List ℕ → Type 0
Within n r P xs = (length xs ≤ n) × AreBelow r xs × P xs

abbrev IsNil : (List ℕ → Type 0) → List ℕ → Type 0
IsNil P [] = P []
IsNil P (x ∷ xs) = ⊥

-- those that begin with a number below k, and those that begin with k
abbrev BeginsBelow : ℕ → ℕ → ℕ → (List ℕ → Type 0) → List ℕ → Type 0
BeginsBelow k n r P [] = ⊥
BeginsBelow k n r P (x ∷ xs) = (x < k) × Within n r (λ ys. P (x ∷ ys)) xs

abbrev BeginsWith : ℕ → ℕ → ℕ → (List ℕ → Type 0) → List ℕ → Type 0
BeginsWith k n r P [] = ⊥
BeginsWith k n r P (x ∷ xs) = (x ≡ k) × Within n r (λ ys. P (x ∷ ys)) xs

module _ (R : List ℕ → List ℕ → Type 0) (total : IsTotal R) (through : IsTransitive R) (P : List ℕ → Type 0) (n r : ℕ) where
  -- the number that the lists begin with is put before
  begins_with : (k : ℕ) → Best (λ xs ys. R (k ∷ xs) (k ∷ ys)) (Within n r (λ ys. P (k ∷ ys))) → Best R (BeginsWith k n r P)
  begins_with k (inl none) = inl not_any
    where
      not_any : (xs : List ℕ) → BeginsWith k n r P xs → ⊥
      not_any [] h = h
      not_any (x ∷ xs) h = none xs (subst (λ z. Within n r (λ ys. P (z ∷ ys)) xs) h.0 h.1)
  begins_with k (inr b) = inr (k ∷ b.0, (refl, b.1), least_of)
    where
      least_of : (xs : List ℕ) → BeginsWith k n r P xs → R (k ∷ b.0) xs
      least_of [] h = absurd h
      least_of (x ∷ xs) h = subst (λ z. R (k ∷ b.0) (z ∷ xs)) (sym h.0) (b.2 xs (subst (λ z. Within n r (λ ys. P (z ∷ ys)) xs) h.0 h.1))

  begins_below : ((k : ℕ) → Best (λ xs ys. R (k ∷ xs) (k ∷ ys)) (Within n r (λ ys. P (k ∷ ys)))) → (k : ℕ) → Best R (BeginsBelow k n r P)
  begins_below each zero = inl none
    where
      none : (xs : List ℕ) → BeginsBelow 0 n r P xs → ⊥
      none [] h = h
      none (x ∷ xs) h = let l = h.0 in omega (arith, l)
  begins_below each (suc k) =
      join R total through (BeginsBelow k n r P) (BeginsWith k n r P) (BeginsBelow (suc k) n r P) parts less same (begins_below each k) (begins_with k (each k))
    where
      parts : (xs : List ℕ) → BeginsBelow (suc k) n r P xs → BeginsBelow k n r P xs ⊎ BeginsWith k n r P xs
      parts [] h = absurd h
      parts (x ∷ xs) h = let l = h.0 in ⊎_elim (λ (b : x < k). inl (b, h.1)) (λ (b : k ≤ x). let e : x ≡ k = omega (arith, l, b) in inr (e, h.1)) (cases_lt x k)

      less : (xs : List ℕ) → BeginsBelow k n r P xs → BeginsBelow (suc k) n r P xs
      less [] h = h
      less (x ∷ xs) h = let l = h.0 in (omega (arith, l), h.1)

      same : (xs : List ℕ) → BeginsWith k n r P xs → BeginsBelow (suc k) n r P xs
      same [] h = h
      same (x ∷ xs) h = let e = h.0 in (omega (arith, e), h.1)

  nil : IsDecided P → Best R (IsNil P)
  nil decided = ⊎_elim (λ p. inr ([], p, first)) (λ not. inl (none not)) (decided [])
    where
      first : (xs : List ℕ) → IsNil P xs → R [] xs
      first [] h = itself R total through []
      first (x ∷ xs) h = absurd h

      none : (P [] → ⊥) → (xs : List ℕ) → IsNil P xs → ⊥
      none not [] h = not h
      none not (x ∷ xs) h = h

  -- of the empty list and of longer ones
  longer : IsDecided P → ((k : ℕ) → Best (λ xs ys. R (k ∷ xs) (k ∷ ys)) (Within n r (λ ys. P (k ∷ ys)))) → Best R (Within (suc n) r P)
  longer decided each =
      join R total through (IsNil P) (BeginsBelow r n r P) (Within (suc n) r P) parts empty some (nil decided) (begins_below each r)
    where
      parts : (xs : List ℕ) → Within (suc n) r P xs → IsNil P xs ⊎ BeginsBelow r n r P xs
      parts [] h = inl h.2
      parts (x ∷ xs) h = let l = h.0 in inr (h.1.0, (omega (arith, l), h.1.1, h.2))

      empty : (xs : List ℕ) → IsNil P xs → Within (suc n) r P xs
      empty [] h = (omega arith, tt, h)
      empty (x ∷ xs) h = absurd h

      some : (xs : List ℕ) → BeginsBelow r n r P xs → Within (suc n) r P xs
      some [] h = absurd h
      some (x ∷ xs) h = let l = h.1.0 in (omega (arith, l), (h.0, h.1.1), h.1.2)

-- the least of the lists of at most n numbers below r
least : (n r : ℕ) (R : List ℕ → List ℕ → Type 0) → IsTotal R → IsTransitive R → (P : List ℕ → Type 0) → IsDecided P → Best R (Within n r P)
least zero r R total through P decided = join R total through (IsNil P) (λ xs. ⊥) (Within 0 r P) parts empty (λ xs h. absurd h) (nil R total through P 0 r decided) (inl (λ xs h. h))
  where
    parts : (xs : List ℕ) → Within 0 r P xs → IsNil P xs ⊎ ⊥
    parts [] h = inl h.2
    parts (x ∷ xs) h = let l = h.0 in absurd (omega (arith, l))

    empty : (xs : List ℕ) → IsNil P xs → Within 0 r P xs
    empty [] h = (omega arith, tt, h)
    empty (x ∷ xs) h = absurd h
least (suc n) r R total through P decided =
    longer R total through P n r decided
    (λ k. least n r (λ xs ys. R (k ∷ xs) (k ∷ ys)) (λ xs ys. total (k ∷ xs) (k ∷ ys)) (λ xs ys zs. through (k ∷ xs) (k ∷ ys) (k ∷ zs)) (λ ys. P (k ∷ ys)) (λ xs. decided (k ∷ xs)))

-- ---- timed paths are decided

contains_tail : (x q : ℕ) (xs : List ℕ) → Contains xs q → Contains (x ∷ xs) q
contains_tail x q xs h = (suc h.0, let l = h.1 in omega (arith, l), h.2)

is_among : (xs : List ℕ) (q : ℕ) → Contains xs q ⊎ (Contains xs q → ⊥)
is_among [] q = inr (λ h. let l = h.1 in omega (arith, l))
is_among (x ∷ xs) q =
    ⊎_elim (λ (e : x ≡ q). inl (0, omega arith, e))
    (λ (not : x ≡ q → ⊥). ⊎_elim (λ h. inl (contains_tail x q xs h)) (λ (none : Contains xs q → ⊥). inr (λ h. further not none h.0 h.1 h.2)) (is_among xs q))
    (cases_eq x q)
  where
    further : (x ≡ q → ⊥) → (Contains xs q → ⊥) → (k : ℕ) → k < length (x ∷ xs) → slice_index_or (x ∷ xs) k q ≡ q → ⊥
    further not none zero l e = not e
    further not none (suc k) l e = none (k, omega (arith, l), e)

both : {P Q : Type 0} → P ⊎ (P → ⊥) → Q ⊎ (Q → ⊥) → (P × Q) ⊎ (P × Q → ⊥)
both (inl p) (inl q) = inl (p, q)
both (inl p) (inr not) = inr (λ h. not h.1)
both (inr not) q = inr (λ h. not h.0)

goes_decided : (A : Arch) (q t : ℕ) (path : List ℕ) (r s : ℕ) → Goes A q t path r s ⊎ (Goes A q t path r s → ⊥)
goes_decided A q t [] r s = both (cases_eq q r) (cases_eq t s)
goes_decided A q t (x ∷ path) r s = both (is_among (resource A x).drivers q) (goes_decided A x (t + delay A x) path r s)

path_decided : (A : Arch) (ends : Ends) → IsDecided (IsTimedPath A ends)
path_decided A ends [] = inr (λ h. h)
path_decided A ends (q ∷ path) = both (cases_eq q ends.from) (goes_decided A ends.from ends.start path ends.to ends.end)

-- ---- their order

list_total : (xs ys : List ℕ) → IsNotAfter xs ys ⊎ IsNotAfter ys xs
list_total [] ys = inl tt
list_total (x ∷ xs) [] = inr tt
list_total (x ∷ xs) (y ∷ ys) =
    ⊎_elim
    (λ (e : x ≡ y). ⊎_elim (λ h. inl (inr (e, h))) (λ h. inr (inr (sym e, h))) (list_total xs ys))
    (λ other. ⊎_elim (λ (l : x < y). inl (inl l)) (λ (l : y < x). inr (inl l)) other)
    (cases_order x y)

list_through : (xs ys zs : List ℕ) → IsNotAfter xs ys → IsNotAfter ys zs → IsNotAfter xs zs
list_through [] ys zs h k = tt
list_through (x ∷ xs) [] zs h k = absurd h
list_through (x ∷ xs) (y ∷ ys) [] h k = absurd k
list_through (x ∷ xs) (y ∷ ys) (z ∷ zs) (inl a) (inl b) = inl (omega (arith, a, b))
list_through (x ∷ xs) (y ∷ ys) (z ∷ zs) (inl a) (inr b) = let e = b.0 in inl (omega (arith, a, e))
list_through (x ∷ xs) (y ∷ ys) (z ∷ zs) (inr a) (inl b) = let e = a.0 in inl (omega (arith, e, b))
list_through (x ∷ xs) (y ∷ ys) (z ∷ zs) (inr a) (inr b) = inr (a.0 ∙ b.0, list_through xs ys zs a.1 b.1)

most_total : (p q : ℕ) (xs ys : List ℕ) → IsAtMost p xs q ys ⊎ IsAtMost q ys p xs
most_total p q xs ys =
    ⊎_elim
    (λ (e : p ≡ q). ⊎_elim (λ h. inl (inr (e, h))) (λ h. inr (inr (sym e, h))) (list_total xs ys))
    (λ other. ⊎_elim (λ (l : p < q). inl (inl l)) (λ (l : q < p). inr (inl l)) other)
    (cases_order p q)

most_through : (p q r : ℕ) (xs ys zs : List ℕ) → IsAtMost p xs q ys → IsAtMost q ys r zs → IsAtMost p xs r zs
most_through p q r xs ys zs (inl a) (inl b) = inl (omega (arith, a, b))
most_through p q r xs ys zs (inl a) (inr b) = let e = b.0 in inl (omega (arith, a, e))
most_through p q r xs ys zs (inr a) (inl b) = let e = a.0 in inl (omega (arith, e, b))
most_through p q r xs ys zs (inr a) (inr b) = inr (a.0 ∙ b.0, list_through xs ys zs a.1 b.1)

-- ---- what is found

-- it is known whether a number is no greater than another
is_at_most : (m n : ℕ) → (m ≤ n) ⊎ (m ≤ n → ⊥)
is_at_most m n = ⊎_elim (λ (l : n < m). inr (λ h. omega (arith, l, h))) (λ (l : m ≤ n). inl l) (cases_lt n m)

near_decided : (ii : ℕ) (ends : Ends) → AreNear ii ends ⊎ (AreNear ii ends → ⊥)
near_decided ii ends = both (is_at_most ends.start ends.end) (is_at_most (ends.end - ends.start) (longest ii))

module _ (T : Table) (u : ℕ) (ends : Ends) where
  -- of less price, or of the same price and not after
  abbrev Before : List ℕ → List ℕ → Type 0
  Before xs ys = IsAtMost (price T u ends.start xs) xs (price T u ends.start ys) ys

  -- the least path is found, or there is none
  pub found_or_none : (n r : ℕ) → ((path : List ℕ) → IsTimedPath T.arch ends path → (length path ≤ n) × AreBelow r path) → (found : Option (List ℕ)) × IsFound T u ends found
  found_or_none n r within =
      ⊎_elim
      (λ (near : AreNear T.interval ends).
      ⊎_elim
      (λ (none : (xs : List ℕ) → Within n r (IsTimedPath T.arch ends) xs → ⊥). (None, λ (h : AreNear T.interval ends) path p. let w = within path p in none path (w.0, w.1, p)))
      (λ (b : (b : List ℕ) × Within n r (IsTimedPath T.arch ends) b × ((xs : List ℕ) → Within n r (IsTimedPath T.arch ends) xs → Before b xs)).
      (Some b.0, (record { is_path = b.1.2; least = λ other p. let w = within other p in b.2 other (w.0, w.1, p) }, near)))
      (least n r Before (λ xs ys. most_total (price T u ends.start xs) (price T u ends.start ys) xs ys)
      (λ xs ys zs. most_through (price T u ends.start xs) (price T u ends.start ys) (price T u ends.start zs) xs ys zs) (IsTimedPath T.arch ends) (path_decided T.arch ends)))
      (λ far. (None, λ near path p. far near))
      (near_decided T.interval ends)
