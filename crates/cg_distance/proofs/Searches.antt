-- Searches among the numbers below a bound.
use Rattle.std.proofs.Common.{◌≡◌, ℕ, zero, suc, ◌<◌, ◌≤◌, ◌⊎◌, inl, inr, Bool, true, subst, arith, ⊎_elim}
use Rattle.std.proofs.lemmas.Bool.{cases_eq, cases_lt, cases_Bool, both_ways}

-- a fact holds, or it doesn't
abbrev pub Decided : Type 0 → Type 0
Decided P = P ⊎ (P → ⊥)

-- of two numbers it is decided which is less
pub less_decided : (m n : ℕ) → Decided (m < n)
less_decided m n = ⊎_elim (λ h. inl h) (λ h. inr (λ k. omega arith)) (cases_lt m n)

-- what a test says is decided
pub true_decided : (b : Bool) → Decided (b ≡ true)
true_decided b = ⊎_elim (λ h. inl h) (λ h. inr (λ t. both_ways b h t)) (cases_Bool b)

-- two facts that are decided are so together
pub both_decided : (P Q : Type 0) → Decided P → Decided Q → Decided (P × Q)
both_decided P Q (inl p) (inl q) = inl (p, q)
both_decided P Q (inl p) (inr q) = inr (λ h. q h.1)
both_decided P Q (inr p) q = inr (λ h. p h.0)

-- and so is that one of them holds
pub either_decided : (P Q : Type 0) → Decided P → Decided Q → Decided (P ⊎ Q)
either_decided P Q (inl p) q = inl (inl p)
either_decided P Q (inr p) (inl q) = inl (inr q)
either_decided P Q (inr p) (inr q) = inr (λ h. ⊎_elim p q h)

-- a fact holds of no number below n
abbrev pub HasNone : (ℕ → Type 0) → ℕ → Type 0
HasNone P n = (k : ℕ) → k < n → P k → ⊥

-- k is the first number below n of which it holds
pub record IsFirst (P : ℕ → Type 0) (n k : ℕ) : Type 0 where
  pub within : k < n
  pub holds : P k
  pub least : (i : ℕ) → i < n → P i → k ≤ i

-- k is the last one
pub record IsLast (P : ℕ → Type 0) (n k : ℕ) : Type 0 where
  pub within : k < n
  pub holds : P k
  pub most : (i : ℕ) → i < n → P i → i ≤ k

none_more : (P : ℕ → Type 0) (n : ℕ) → (P n → ⊥) → HasNone P n → HasNone P (suc n)
none_more P n here before k h p = ⊎_elim (λ e. here (subst P e p)) (λ ne. before k (omega arith) p) (cases_eq k n)

-- there is a last number below n of which the fact holds, or none
pub last_below : (P : ℕ → Type 0) (n : ℕ) → ((k : ℕ) → k < n → Decided (P k)) → ((k : ℕ) × IsLast P n k) ⊎ HasNone P n
last_below P zero decided = inr (λ k h p. omega arith)
last_below P (suc n) decided =
    ⊎_elim
    (λ p. inl (n, record { within = omega arith; holds = p; most = λ i h q. omega arith }))
    (λ no. ⊎_elim
    (λ f.
    let within : f.0 < n = f.1.within in
    inl (
      f.0,
      record {
        within = omega arith;
        holds = f.1.holds;
        most = λ i h q. ⊎_elim (λ e. absurd (no (subst P e q))) (λ ne. f.1.most i (omega arith) q) (cases_eq i n);
      },
    ))
    (λ none. inr (none_more P n no none))
    (last_below P n (λ k h. decided k (omega arith))))
    (decided n (omega arith))

-- and a first one, or none
pub first_below : (P : ℕ → Type 0) (n : ℕ) → ((k : ℕ) → k < n → Decided (P k)) → ((k : ℕ) × IsFirst P n k) ⊎ HasNone P n
first_below P zero decided = inr (λ k h p. omega arith)
first_below P (suc n) decided =
    ⊎_elim
    (λ f.
    let within : f.0 < n = f.1.within in
    inl (
      f.0,
      record {
        within = omega arith;
        holds = f.1.holds;
        least = λ i h q. ⊎_elim (λ lt. f.1.least i lt q) (λ ge. omega arith) (cases_lt i n);
      },
    ))
    (λ none. ⊎_elim
    (λ p. inl (
      n,
      record {
        within = omega arith;
        holds = p;
        least = λ i h q. ⊎_elim (λ lt. absurd (none i lt q)) (λ ge. ge) (cases_lt i n);
      },
    ))
    (λ no. inr (none_more P n no none))
    (decided n (omega arith)))
    (first_below P n (λ k h. decided k (omega arith)))

-- where a fact holds only below n, it is decided whether it holds of some number
pub some_decided : (P : ℕ → Type 0) (n : ℕ) → ((k : ℕ) → k < n → Decided (P k)) → ((k : ℕ) → P k → k < n) → Decided ((k : ℕ) × P k)
some_decided P n decided below =
    ⊎_elim (λ f. inl (f.0, f.1.holds)) (λ none. inr (λ h. none h.0 (below h.0 h.1) h.1)) (last_below P n decided)
