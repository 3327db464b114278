-- The window of the last turns: a step's write, and a turn's end.
use Rattle.std.proofs.Common.{◌≡◌, ◌≢◌, ℕ, suc, ◌+◌, ◌*◌, ◌%◌, ◌<◌, ◌≤◌, ◌⊎◌, inl, inr, List, [], ◌∷◌, ◌++◌, length, sym, ◌∙◌, arith, ⊎_elim, mul-le-mul_right, set, length-set}
use Rattle.std.specs.Prelude.{slice_index}
use Rattle.std.proofs.lemmas.List.{get_or_push, get_or_append_left, get_or-set_same, get_or-set_other}
use Rattle.std.proofs.lemmas.Bool.{cases_lt, le-leb, lt-leb}
use Rattle.std.proofs.lemmas.Nat.{mul-add-lt, same_from_place}
use Rattle.cg_turns.specs.Window.{IsWindow, row_before}

-- of five turns in a row no two share a row
apart : (i j : ℕ) → j ≤ i → i ≤ j + 4 → j % 5 ≡ i % 5 → j ≡ i
apart i j a b e = omega arith

pub row_before_is : (j d : ℕ) → d ≤ 4 → row_before ((j + d) % 5) d ≡ j % 5
row_before_is j d h =
    ⊎_elim (λ l. rw (lt-leb d ((j + d) % 5) l) (omega arith)) (λ l. rw (le-leb d ((j + d) % 5) l) (omega arith)) (cases_lt ((j + d) % 5) d)

earlier_place : (i j m u v : ℕ) → j < i → u < m → j * m + u < i * m + v
earlier_place i j m u v h l = let p : suc j * m ≤ i * m = mul-le-mul_right m h in omega arith

module _ (m i v : ℕ) (window values : List ℕ) (x : ℕ) (l : v < m) (long : length values ≡ i * m + v) (w : IsWindow m i v window values) where
  at : ℕ
  at = i % 5 * m + v

  at_within : i % 5 * m + v < length window
  at_within = rw w.length_is (let h : i % 5 < 5 = omega arith in omega (arith, mul-add-lt (i % 5) m v 5 h l))

  written_here : slice_index (set window (i % 5 * m + v) x) (i % 5 * m + v) ≡ slice_index (values ++ x ∷ []) (i * m + v)
  written_here = get_or-set_same window (i % 5 * m + v) x 0 at_within ∙ sym (get_or_push values x 0 (i * m + v) long)

  written_there : (u j : ℕ) → u < m → j ≤ i → i ≤ j + 4 → (j < i) ⊎ (u < v) → slice_index (set window (i % 5 * m + v) x) (j % 5 * m + u) ≡ slice_index (values ++ x ∷ []) (j * m + u)
  written_there u j k a b h =
      let ne : j % 5 * m + u ≢ i % 5 * m + v = λ e.
      let same = same_from_place (j % 5) u (i % 5) v m k l e in
      let e1 : j % 5 ≡ i % 5 = same.0 in
      let e2 : u ≡ v = same.1 in
      let e3 : j ≡ i = apart i j a b e1 in
      ⊎_elim {C = ⊥} (λ p. omega arith) (λ p. omega arith) h in
      let below : j * m + u < i * m + v = ⊎_elim (λ p. earlier_place i j m u v p k)
      (λ p. ⊎_elim (λ q. earlier_place i j m u v q k) (λ q. let e : j ≡ i = omega arith in rw e (omega arith)) (cases_lt j i)) h in
      get_or-set_other window (i % 5 * m + v) (j % 5 * m + u) x 0 ne ∙ w.holds u j k a b h ∙ sym (get_or_append_left values (x ∷ []) 0 (j * m + u) (omega arith))

  written_at : (u j : ℕ) → u < m → j ≤ i → i ≤ j + 4 → (j < i) ⊎ (u < suc v) → slice_index (set window (i % 5 * m + v) x) (j % 5 * m + u) ≡ slice_index (values ++ x ∷ []) (j * m + u)
  written_at u j k a b h =
      ⊎_elim (λ p. written_there u j k a b (inl p))
      (λ p. ⊎_elim (λ q. written_there u j k a b (inr q))
      (λ q. let e : u ≡ v = ⊎_elim (λ z. omega arith) (λ z. omega arith) h in let f : j ≡ i = omega arith in rw (e, f) written_here)
      (cases_lt u v))
      (cases_lt j i)

  pub window_step : IsWindow m i (suc v) (set window (i % 5 * m + v) x) (values ++ x ∷ [])
  window_step = record { length_is = length-set window (i % 5 * m + v) x ∙ w.length_is; holds = written_at }

pub window_turn : (m i : ℕ) (window values : List ℕ) → IsWindow m i m window values → IsWindow m (i + 1) 0 window values
window_turn m i window values w =
    record { length_is = w.length_is; holds = λ u j k a b h. w.holds u j k (⊎_elim (λ p. omega arith) (λ p. omega arith) h) (omega arith) (inr k) }
