-- Tables of the pairs of a relation.
use Rattle.std.proofs.Common.{◌≡◌, ℕ, ◌<◌, ◌⊎◌, inl, inr, Bool, true, false, List, refl, sym, ◌∙◌, arith, ⊎_elim}
use Rattle.std.specs.Prelude.{not, ◌&&◌, ◌||◌}
use Rattle.cg_c_order.specs.Marks.{AreJoined, IsSquare, IsTable, entry, has}

-- the pairs of another relation, which is the same
pub retable : (n : ℕ) (R S : ℕ → ℕ → Type 0) (rows : List (List Bool)) → ((x y : ℕ) → R x y → S x y) → ((x y : ℕ) → S x y → R x y) → IsTable n R rows → IsTable n S rows
retable n R S rows there back t = record {
  square = t.square;
  sound = λ x y lx ly e. there x y (t.sound x y lx ly e);
  complete = λ x y lx ly s. t.complete x y lx ly (back x y s);
}

pub or_cases : (a b : Bool) → (a || b) ≡ true → (a ≡ true) ⊎ (b ≡ true)
or_cases true b e = inl refl
or_cases false b e = inr e

joined_cases : (a s t o : Bool) → (a || ((s && not t) && o)) ≡ true → (a ≡ true) ⊎ ((s ≡ true) × (o ≡ true))
joined_cases true s t o e = inl refl
joined_cases false true true o e = absurd (cc)
joined_cases false true false o e = inr (refl, e)
joined_cases false false t o e = absurd (cc)

joined_old : (a s t o : Bool) → a ≡ true → (a || ((s && not t) && o)) ≡ true
joined_old true s t o e = refl
joined_old false s t o e = absurd (cc)

joined_new : (a s t o : Bool) → (t ≡ true → a ≡ true) → s ≡ true → o ≡ true → (a || ((s && not t) && o)) ≡ true
joined_new true s t o k e f = refl
joined_new false true true true k e f = absurd (let z : false ≡ true = k refl in cc)
joined_new false true false true k e f = refl
joined_new false true t false k e f = absurd (cc)
joined_new false false t o k e f = absurd (cc)

pub join_square : (n : ℕ) (sources : List Bool) (to : ℕ) (targets : List Bool) (old new : List (List Bool)) → IsSquare n old → AreJoined sources to targets old new → IsSquare n new
join_square n sources to targets old new square joined = record {
  long = joined.long ∙ square.long;
  wide = λ x lx. (joined.rows x (let e = square.long in omega arith)).long ∙ square.wide x lx;
}

-- a table to which the pairs of sources and targets are joined
module _ (n : ℕ) (R : ℕ → ℕ → Type 0) (S T : ℕ → Type 0) (sources : List Bool) (to : ℕ) (targets : List Bool) (old new : List (List Bool))
    (table : IsTable n R old) (joined : AreJoined sources to targets old new) where
  cell : (x y : ℕ) → x < n → entry new x y ≡ (entry old x y || ((has sources x && not (entry old x to)) && has targets y))
  cell x y lx = (joined.rows x (let e = table.square.long in omega arith)).cells y

  pub join_table : to < n → ((x : ℕ) → x < n → has sources x ≡ true → S x) → ((x : ℕ) → x < n → S x → has sources x ≡ true) →
      ((y : ℕ) → y < n → has targets y ≡ true → T y) → ((y : ℕ) → y < n → T y → has targets y ≡ true) →
      ((x y : ℕ) → R x to → T y → R x y) → IsTable n (λ x y. R x y ⊎ (S x × T y)) new
  join_table lt s s' t t' on = record {
    square = join_square n sources to targets old new table.square joined;
    sound = λ x y lx ly e.
        ⊎_elim (λ h. inl (table.sound x y lx ly h)) (λ h. inr (s x lx h.0, t y ly h.1))
        (joined_cases (entry old x y) (has sources x) (entry old x to) (has targets y) (sym (cell x y lx) ∙ e));
    complete = λ x y lx ly h.
        cell x y lx
        ∙ ⊎_elim
        (λ r. joined_old (entry old x y) (has sources x) (entry old x to) (has targets y) (table.complete x y lx ly r))
        (λ p.
        joined_new (entry old x y) (has sources x) (entry old x to) (has targets y)
        (λ e. table.complete x y lx ly (on x y (table.sound x to lx lt e) p.1)) (s' x lx p.0) (t' y ly p.1))
        h;
  }
