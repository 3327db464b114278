-- Numbers of which none stands twice, one after another.
use Rattle.std.proofs.Common.{◌≡◌, ℕ, zero, suc, ◌==◌, true, false, List, [], ◌∷◌, ◌++◌, get_or, Contains, refl, sym, subst, arith, ⊎_elim, eq-eqb}
use Rattle.std.specs.List.{list_any}
use Rattle.std.proofs.lemmas.List.Elements.{Contains-append_cases}
use Rattle.std.proofs.lemmas.List.Folds.{list_any_at}
use Rattle.cg_c_meaning.specs.Typed.{AreApart}

none_of_none : (n : ℕ) → ¬ Contains [] n
none_of_none n (k, lt, is) = absurd (omega arith)

the_first : (n : ℕ) (ns : List ℕ) → Contains (n ∷ ns) n
the_first n ns = (0, omega arith, refl)

a_later : (n m : ℕ) (ns : List ℕ) → Contains ns n → Contains (m ∷ ns) n
a_later n m ns (k, lt, is) = (suc k, omega arith, is)

the_only : (n m : ℕ) → Contains (n ∷ []) m → n ≡ m
the_only n m (zero, lt, is) = is
the_only n m (suc k, lt, is) = absurd (omega arith)

-- another one behind them
pub one_more_apart : (ns : List ℕ) (n : ℕ) → AreApart ns → ¬ Contains ns n → AreApart (ns ++ n ∷ [])
one_more_apart [] n h new = (none_of_none n, tt)
one_more_apart (m ∷ ns) n h new = (
  λ c. ⊎_elim h.0 (λ r. new (subst (λ k. Contains (m ∷ ns) k) (sym (the_only n m r)) (the_first m ns))) (Contains-append_cases ns (n ∷ []) m c),
  one_more_apart ns n h.1 (λ c. new (a_later n m ns c)),
)

-- no test finds it among them
pub not_among : (ns : List ℕ) (n : ℕ) → list_any (λ other. other == n) ns ≡ false → ¬ Contains ns n
not_among ns n h (k, lt, is) =
    let found : list_any (λ other. other == n) ns ≡ true = list_any_at (λ other. other == n) ns k n lt (eq-eqb (get_or ns k n) n is) in cc
