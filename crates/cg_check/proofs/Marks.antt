-- Marks for the slots of units, place by place.
use Rattle.std.proofs.Common.{◌≡◌, ◌≢◌, ℕ, ◌+◌, ◌*◌, ◌%◌, ◌<◌, Bool, true, false, List, length, take, drop, Some, cond, get_or, refl, sym, ap, ◌∙◌, subst, arith, add-one, ⊎_elim, eqb-true, eq-eqb}
use Rattle.std.specs.Prelude.{◌&&◌, ◌||◌, eqb}
use Rattle.std.proofs.lemmas.Bool.{and_parts, and_from, or_right, cases_Bool, both_ways, cond-true, cond-false}
use Rattle.std.proofs.lemmas.List.{get_or-set_same, get_or-set_other, length-set, get_or_read}
use Rattle.std.proofs.lemmas.List.Folds.{list_any_more}
use Rattle.std.proofs.Math.Seq.{drop-cons}
use Rattle.std.proofs.lemmas.Nat.{mul-add-lt, mod_below}
use Rattle.std.proofs.Math.ListN.{set}
use Rattle.cg_model.specs.declared.mapping.Place.{Place}
use Rattle.cg_check.specs.Slots.{takes, place_in, mark_of, AreMarks, first_shared, IsScanned}
use Rattle.cg_check.specs.Rules.{is_shared}
use Rattle.cg_model.specs.First.{first_from}
use Rattle.cg_model.proofs.Mappings.{places_apart}

or_false : (a b : Bool) → b ≡ false → (a || b) ≡ a
or_false true b e = refl
or_false false b e = e

-- one more place
pub one_marked : (ii units k : ℕ) (places : List Place) (marks : List Bool) → 0 < ii → k < length places → (place_in places k).unit < units → AreMarks ii units (take k places) marks →
    AreMarks ii units (take (k + 1) places) (set marks (mark_of ii (place_in places k)) true)
one_marked ii units k places marks some l known t =
    let p = place_in places k in
    record {
      long = length-set marks _ true ∙ t.long;
      set = λ x s lx ls.
          let more = list_any_more (λ q. eqb q.unit x && eqb (q.time % ii) s) places k (record { unit = 0; time = 0 }) l in
          ⊎_elim (λ on.
          let (a, b) = and_parts (eqb p.unit x) (eqb (p.time % ii) s) on in
          let same : mark_of ii p ≡ x * ii + s = ap (λ z. z * ii + p.time % ii) (eqb-true _ _ a) ∙ ap (λ z. x * ii + z) (eqb-true _ _ b) in
          let bound = mul-add-lt x ii s units lx ls in
          let long = t.long in
          let within : x * ii + s < length marks = omega (arith, bound, long) in
          subst (λ i. get_or (set marks i true) (x * ii + s) false ≡ takes ii (take (k + 1) places) x s) (sym same) (get_or-set_same marks (x * ii + s) true false within ∙ sym (more ∙ or_right _ _ on)))
          (λ off.
          let apart : x * ii + s ≢ mark_of ii p =
          λ e. let (a, b) = places_apart ii x s p.unit (p.time % ii) ls (mod_below p.time ii some) e in both_ways _ off (and_from _ _ (eq-eqb _ _ (sym a)) (eq-eqb _ _ (sym b))) in
          get_or-set_other marks (mark_of ii p) (x * ii + s) true false apart ∙ t.set x s lx ls ∙ sym (more ∙ or_false _ _ off))
          (cases_Bool (eqb p.unit x && eqb (p.time % ii) s));
    }

-- ---- place by place

-- what is left from number k on
opened : (ii : ℕ) (places : List Place) (k : ℕ) → k < length places → first_shared ii places k ≡ cond (is_shared ii (take k places) (place_in places k)) (Some k) (first_shared ii places (k + 1))
opened ii places k l =
    ap (λ z. first_from (λ v p. is_shared ii (take v places) p) k z) (drop-cons places k (record { unit = 0; time = 0 }) l)
    ∙ ap (λ n. cond (is_shared ii (take k places) (place_in places k)) (Some k) (first_from (λ v p. is_shared ii (take v places) p) (k + 1) (drop n places))) (sym (add-one k))

-- the mark of the place at k was read as m
module _ (ii units : ℕ) (places : List Place) (k : ℕ) (marks : List Bool) (m : Bool) (some : 0 < ii) (l : k < length places) (known : (place_in places k).unit < units) (t : IsScanned ii units places k marks) (read : m ≡ get_or marks (mark_of ii (place_in places k)) m) where
  marked : m ≡ is_shared ii (take k places) (place_in places k)
  marked =
      let p = place_in places k in
      let bound = mul-add-lt p.unit ii (p.time % ii) units known (mod_below _ ii some) in
      let long = t.marks.long in
      get_or_read marks (mark_of ii p) m (omega (arith, bound, long)) read false ∙ t.marks.set p.unit (p.time % ii) known (mod_below _ ii some)

  -- it isn't set
  pub scan_more : m ≡ false → IsScanned ii units places (k + 1) (set marks (mark_of ii (place_in places k)) true)
  scan_more free = record {
    same = sym (opened ii places k l ∙ cond-false _ (Some k) _ (sym marked ∙ free)) ∙ t.same;
    marks = one_marked ii units k places marks some l known t.marks;
  }

  -- it is
  pub scan_found : m ≡ true → Some k ≡ first_shared ii places 0
  scan_found shared = sym (opened ii places k l ∙ cond-true _ (Some k) _ (sym marked ∙ shared)) ∙ t.same
