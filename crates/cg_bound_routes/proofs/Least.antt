-- The least number with a property, and what a search finds.
use Rattle.std.proofs.Common.{ℕ, ◌≤◌, ◌⊎◌, inl, inr, sym, subst, arith, ⊎_elim}
use Rattle.std.specs.Prelude.{Option, Some, None, nat_lt}
use Rattle.std.proofs.lemmas.Bool.{cases_Bool, ltb-true, ltb-false, cond-true, cond-false}
use Rattle.cg_model.specs.Array.{Arch}
use Rattle.cg_bound_routes.specs.Ways.{IsLeast, IsSmall}
use Rattle.cg_bound_routes.specs.Search.{IsFound}
use Rattle.cg_bound_routes.specs.Question.{lesser}

-- of two properties that the same numbers have
pub least_same : (P Q : ℕ → Type 0) → ((n : ℕ) → P n → Q n) → ((n : ℕ) → Q n → P n) → (o : Option ℕ) → IsLeast P o → IsLeast Q o
least_same P Q f g None h = λ n q. h n (g n q)
least_same P Q f g (Some n) (p, low) = (f n p, λ m q. low m (g m q))

-- of one of two properties
pub lesser_least : (P Q : ℕ → Type 0) (a b : Option ℕ) → IsLeast P a → IsLeast Q b → IsLeast (λ n. P n ⊎ Q n) (lesser a b)
lesser_least P Q None None f g = λ n h. ⊎_elim {C = ⊥} (λ p. f n p) (λ q. g n q) h
lesser_least P Q None (Some y) f (q, low) = (inr q, λ m h. ⊎_elim {C = y ≤ m} (λ p. absurd (f m p)) (λ k. low m k) h)
lesser_least P Q (Some x) None (p, low) g = (inl p, λ m h. ⊎_elim {C = x ≤ m} (λ k. low m k) (λ q. absurd (g m q)) h)
lesser_least P Q (Some x) (Some y) (p, low) (q, low') =
    ⊎_elim {C = IsLeast (λ n. P n ⊎ Q n) (lesser (Some x) (Some y))}
    (λ t. let lt = ltb-true y x t in
    subst (λ z. IsLeast (λ n. P n ⊎ Q n) z) (sym (cond-true (nat_lt y x) (Some y) (Some x) t))
    (inr q, λ m h. ⊎_elim {C = y ≤ m} (λ k. let a = low m k in omega arith) (λ k. low' m k) h))
    (λ t. let le = ltb-false y x t in
    subst (λ z. IsLeast (λ n. P n ⊎ Q n) z) (sym (cond-false (nat_lt y x) (Some y) (Some x) t))
    (inl p, λ m h. ⊎_elim {C = x ≤ m} (λ k. low m k) (λ k. let a = low' m k in omega arith) h))
    (cases_Bool (nat_lt y x))

small_lesser : (most : ℕ) (a b : Option ℕ) → IsSmall most a → IsSmall most b → IsSmall most (lesser a b)
small_lesser most None b f g = g
small_lesser most (Some x) None f g = f
small_lesser most (Some x) (Some y) f g =
    ⊎_elim {C = IsSmall most (lesser (Some x) (Some y))} (λ t. subst (IsSmall most) (sym (cond-true (nat_lt y x) (Some y) (Some x) t)) g)
    (λ t. subst (IsSmall most) (sym (cond-false (nat_lt y x) (Some y) (Some x) t)) f) (cases_Bool (nat_lt y x))

-- what searches find: of a property that is another one, of one that no number has, and of one or the other of two
module _ (A : Arch) where
  pub found_same : (P Q : ℕ → Type 0) → ((n : ℕ) → P n → Q n) → ((n : ℕ) → Q n → P n) → (o : Option ℕ) → IsFound A P o → IsFound A Q o
  found_same P Q f g o h = record { least = least_same P Q f g o h.least; small = h.small }

  pub found_none : (P : ℕ → Type 0) → ((n : ℕ) → P n → ⊥) → IsFound A P None
  found_none P h = record { least = h; small = λ n e. absurd (cc) }

  pub found_lesser : (P Q : ℕ → Type 0) (a b : Option ℕ) → IsFound A P a → IsFound A Q b → IsFound A (λ n. P n ⊎ Q n) (lesser a b)
  found_lesser P Q a b f g = record { least = lesser_least P Q a b f.least g.least; small = small_lesser _ a b f.small g.small }
