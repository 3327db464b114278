-- Muxes in an order of their nets, one after another.
use Rattle.std.proofs.Common.{◌≡◌, ℕ, ◌+◌, ◌<◌, ◌≤◌, List, [], ◌∷◌, ◌++◌, length, take, ap, sym, ◌∙◌, subst, arith, ⊎_elim, length-append}
use Rattle.std.specs.Prelude.{Contains, slice_index}
use Rattle.std.proofs.lemmas.Bool.{cases_lt}
use Rattle.std.proofs.lemmas.List.{get_or_append_left, get_or-append-add, get_or-take, get_or_default, length-take-le}
use Rattle.cg_gates.specs.declared.tables.Choice.{Choice}
use Rattle.cg_gates.specs.Tables.{choice}
use Rattle.cg_gates_run.proofs.Listed.{each_entry, old_entry, new_entry}

abbrev none : Choice
none = record { net = 0; select = 0; first = 0; count = 0 }

-- the entry's net stands before place n of an order, after those that it hears
pub record IsRanked (order : List ℕ) (n : ℕ) (heard : List ℕ) (e : Choice) : Type 0 where
  pub place : ℕ
  pub low : place < n
  pub at : e.net ≡ slice_index order place
  pub within : e.first + e.count ≤ length heard
  pub before : (m : ℕ) → m < e.count → Contains (take place order) (slice_index heard (e.first + m))

-- and entries in that order
pub record AreRanked (order : List ℕ) (n : ℕ) (heard : List ℕ) (es : List Choice) : Type 0 where
  pub each : (j : ℕ) → j < length es → IsRanked order n heard (choice es j)
  pub rising : (i j m : ℕ) → i < length es → j < length es → m < (choice es j).count → (choice es i).net ≡ slice_index heard ((choice es j).first + m) → i < j

pub none_ranked : (order heard : List ℕ) → AreRanked order 0 heard []
none_ranked order heard = record { each = λ j l. absurd (omega arith); rising = λ i j m l. absurd (omega arith) }

rank_kept : (order : List ℕ) (n o : ℕ) (heard more : List ℕ) (e : Choice) → n ≤ o → IsRanked order n heard e → IsRanked order o (heard ++ more) e
rank_kept order n o heard more e up h =
    let long = length-append heard more in
    let within = h.within in
    let low = h.low in
    record {
      place = h.place;
      low = omega (arith, low, up);
      at = h.at;
      within = omega (arith, long, within);
      before = λ m l. subst (Contains (take h.place order)) (sym (get_or_append_left heard more 0 (e.first + m) (omega (arith, l, within)))) (h.before m l);
    }

pub ranked_skip : (order : List ℕ) (n : ℕ) (heard : List ℕ) (es : List Choice) → AreRanked order n heard es → AreRanked order (n + 1) heard es
ranked_skip order n heard es h = record {
  each = λ j l.
      let r = h.each j l in
      let low = r.low in
      record { place = r.place; low = omega (arith, low); at = r.at; within = r.within; before = r.before };
  rising = h.rising;
}

-- what is among the first k of a list has a place below k
pub among_first : (order : List ℕ) (k q : ℕ) → k ≤ length order → Contains (take k order) q → (p : ℕ) × (p < k) × (slice_index order p ≡ q)
among_first order k q inside (p, below, same) =
    let few : length (take k order) ≡ k = length-take-le k order inside in
    (p, omega arith, sym (get_or-take k order p 0 (omega arith)) ∙ get_or_default (take k order) p 0 q below ∙ same)

module _ (order : List ℕ) (n : ℕ) (heard ds : List ℕ) (es : List Choice) (e : Choice) (inside : n < length order)
    (once : (j k : ℕ) → j < k → k < length order → slice_index order j ≡ slice_index order k → ⊥)
    (at : e.net ≡ slice_index order n) (first : e.first ≡ length heard) (many : e.count ≡ length ds)
    (before : (m : ℕ) → m < length ds → Contains (take n order) (slice_index ds m)) (h : AreRanked order n heard es) where
  data_at : (m : ℕ) → slice_index (heard ++ ds) (e.first + m) ≡ slice_index ds m
  data_at m = ap (λ f. slice_index (heard ++ ds) (f + m)) first ∙ get_or-append-add heard ds m 0

  last_rank : IsRanked order (n + 1) (heard ++ ds) e
  last_rank =
      let long = length-append heard ds in
      record {
        place = n;
        low = omega arith;
        at = at;
        within = omega (arith, long, first, many);
        before = λ m l. subst (Contains (take n order)) (sym (data_at m)) (before m (omega (arith, l, many)));
      }

  -- nothing that stands before place n is the net of place n
  never : (k q : ℕ) → k ≤ n → Contains (take k order) q → slice_index order n ≡ q → ⊥
  never k q low m same =
      let (p, below, is) = among_first order k q (omega (arith, low, inside)) m in
      once p n (omega (arith, below, low)) inside (is ∙ sym same)

  abbrev longer : List Choice
  longer = es ++ e ∷ []

  old : (j : ℕ) → j < length es → choice longer j ≡ choice es j
  old j l = old_entry none e es j l

  new : (j : ℕ) → j ≡ length es → choice longer j ≡ e
  new j is = new_entry none e es j is

  -- by which two entries there are
  both_old : (i j m : ℕ) → i < length es → j < length es → m < (choice es j).count → (choice es i).net ≡ slice_index (heard ++ ds) ((choice es j).first + m) → i < j
  both_old i j m li lj lm is =
      let within = (h.each j lj).within in
      h.rising i j m li lj lm (is ∙ get_or_append_left heard ds 0 ((choice es j).first + m) (omega (arith, lm, within)))

  new_heard : (j m : ℕ) → j < length es → m < (choice es j).count → e.net ≡ slice_index (heard ++ ds) ((choice es j).first + m) → ⊥
  new_heard j m lj lm is =
      let r = h.each j lj in
      let low = r.low in
      let within = r.within in
      never r.place (slice_index heard ((choice es j).first + m)) (omega (arith, low)) (r.before m lm)
      (sym at ∙ is ∙ get_or_append_left heard ds 0 ((choice es j).first + m) (omega (arith, lm, within)))

  itself : (m : ℕ) → m < e.count → e.net ≡ slice_index (heard ++ ds) (e.first + m) → ⊥
  itself m lm is = never n (slice_index ds m) (omega arith) (before m (omega (arith, lm, many))) (sym at ∙ is ∙ data_at m)

  -- with the entries at hand
  abbrev Rises : ℕ → ℕ → ℕ → Choice → Choice → Type 0
  Rises i j m a b = m < b.count → a.net ≡ slice_index (heard ++ ds) (b.first + m) → i < j

  rises : (i j m : ℕ) → i < length longer → j < length longer → Rises i j m (choice longer i) (choice longer j)
  rises i j m li lj =
      let long : length longer ≡ length es + 1 = length-append es (e ∷ []) in
      ⊎_elim
      (λ lo. ⊎_elim
      (λ lp. let P : Choice → Type 0 = λ b. Rises i j m (choice longer i) b in let Q : Choice → Type 0 = λ a. Rises i j m a (choice es j) in subst P (sym (old j lo)) (subst Q (sym (old i lp)) (λ lm is. both_old i j m lp lo lm is)))
      (λ lp. let P : Choice → Type 0 = λ b. Rises i j m (choice longer i) b in let Q : Choice → Type 0 = λ a. Rises i j m a (choice es j) in subst P (sym (old j lo)) (subst Q (sym (new i (omega (arith, lp, li, long)))) (λ lm is. absurd (new_heard j m lo lm is))))
      (cases_lt i (length es)))
      (λ lo. ⊎_elim
      (λ lp. λ lm is. omega (arith, lp, lo))
      (λ lp. let P : Choice → Type 0 = λ b. Rises i j m (choice longer i) b in let Q : Choice → Type 0 = λ a. Rises i j m a e in subst P (sym (new j (omega (arith, lo, lj, long)))) (subst Q (sym (new i (omega (arith, lp, li, long)))) (λ lm is. absurd (itself m lm is))))
      (cases_lt i (length es)))
      (cases_lt j (length es))

  pub ranked_more : AreRanked order (n + 1) (heard ++ ds) longer
  ranked_more = record {
    each = each_entry (IsRanked order (n + 1) (heard ++ ds)) none e es (λ j l. rank_kept order n (n + 1) heard ds (choice es j) (omega arith) (h.each j l)) last_rank;
    rising = rises;
  }
