-- How many panels there is room for: the text of more panels is no shorter.
use Rattle.std.proofs.Common.{◌≡◌, ℕ, zero, suc, ◌+◌, ◌<◌, ◌≤◌, ◌⊎◌, inl, inr, Bool, cond, length, refl, ap, subst, ◌∙◌, length-append, add-one, arith}
use Rattle.std.specs.Prelude.{nat_le}
use Rattle.std.proofs.lemmas.Bool.{le-leb, lt-leb}
use Rattle.cg_check.specs.Legal.{Mapped}
use Rattle.cg_list_laws.specs.Below.{lists_below}
use Rattle.cg_show.specs.Panels.{panel_text, shown}

-- the length of the text of the first n panels
pub size_of : Mapped → ℕ → ℕ
size_of m n = length (lists_below (panel_text m) n)

size_more : (m : Mapped) (n : ℕ) → size_of m (suc n) ≡ size_of m n + length (panel_text m n)
unfolding size_of lists_below
size_more m n = length-append (lists_below (panel_text m) n) (panel_text m n)

pub size_is : (m : Mapped) (n : ℕ) → length (lists_below (panel_text m) n) ≡ size_of m n
unfolding size_of
size_is m n = refl

shown_none : (m : Mapped) (room : ℕ) → shown m room 0 ≡ 0
unfolding shown
shown_none m room = refl

shown_more : (m : Mapped) (room n : ℕ) → shown m room (suc n) ≡ cond (nat_le (size_of m (suc n)) room) (suc n) (shown m room n)
unfolding shown size_of
shown_more m room n = refl

shown_there : (m : Mapped) (room n : ℕ) → size_of m (suc n) ≤ room → shown m room (suc n) ≡ suc n
shown_there m room n h = shown_more m room n ∙ ap (λ (b : Bool). cond b (suc n) (shown m room n)) (le-leb (size_of m (suc n)) room h)

shown_before : (m : Mapped) (room n : ℕ) → room < size_of m (suc n) → shown m room (suc n) ≡ shown m room n
shown_before m room n h = shown_more m room n ∙ ap (λ (b : Bool). cond b (suc n) (shown m room n)) (lt-leb (size_of m (suc n)) room h)

-- there is room for all
pub all_shown : (m : Mapped) (room n : ℕ) → size_of m n ≤ room → shown m room n ≡ n
all_shown m room zero h = shown_none m room
all_shown m room (suc n) h = shown_there m room n h

-- more panels are no shorter
size_below : (m : Mapped) (n k : ℕ) → n ≤ k → size_of m n ≤ size_of m k
size_below m n zero h =
    let none : n ≡ 0 = omega arith in
    subst (λ z. size_of m n ≤ size_of m z) none (omega arith)
size_below m n (suc k) h =
    let more = size_more m k in
    elim (split n k h) [
      | inl below ↦ (let rest = size_below m n k below in omega (arith, more, rest))
      | inr same ↦ (subst (λ z. size_of m n ≤ size_of m z) same (omega arith))
    ]
  where
    split : (a b : ℕ) → a ≤ suc b → (a ≤ b) ⊎ (a ≡ suc b)
    split a b h = grind arith

-- there is room for n and not for one more
pub some_shown : (m : Mapped) (room n k : ℕ) → n < k → size_of m n ≤ room → room < size_of m (n + 1) → shown m room k ≡ n
some_shown m room n zero l fits full = absurd (omega arith)
some_shown m room n (suc k) l fits full =
    let longer : size_of m (suc n) ≤ size_of m (suc k) = size_below m (suc n) (suc k) (omega arith) in
    let next : room < size_of m (suc n) = subst (λ z. room < size_of m z) (add-one n) full in
    let here : room < size_of m (suc k) = omega (arith, longer, next) in
    elim (split n k l) [
      | inl below ↦ (shown_before m room k here ∙ some_shown m room n k below fits full)
      | inr same ↦ (shown_before m room k here ∙ subst (λ z. shown m room z ≡ n) same (all_shown m room n fits))
    ]
  where
    split : (a b : ℕ) → a < suc b → (a < b) ⊎ (a ≡ b)
    split a b h = grind arith
