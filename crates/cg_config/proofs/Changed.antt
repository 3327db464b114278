-- A configuration that is changed in one place stays canonical.
use Rattle.std.proofs.Common.{◌≡◌, ℕ, zero, suc, ◌+◌, ◌^◌, ◌<◌, ◌≤◌, ◌⊎◌, ⊎_elim, inl, inr, max, cond, not, ◌&&◌, ◌||◌, Bool, true, false, eqb, List, [], length, get_or, replicate, Option, None, refl, sym, ap, subst, ◌∙◌, arith}
use Rattle.std.specs.Prelude.{slice_set, slice_index_or}
use Rattle.std.proofs.lemmas.Bool.{cases_lt, cases_eq, eqb-false, ne_eqb, not-true, or_parts}
use Rattle.std.proofs.lemmas.List.{get_or-set_same, get_or-set_other, length-set, get_or-replicate, length-replicate}
use Rattle.cg_word.specs.declared.op.Op.{Op}
use Rattle.cg_model.specs.declared.config.ArgFields.{ArgFields}
use Rattle.cg_model.specs.declared.config.UnitFields.{UnitFields}
use Rattle.cg_model.specs.Array.{Arch, resource, unit}
use Rattle.cg_model.specs.Config.{Config, select, fields, arg, no_arg, off}
use Rattle.cg_model.specs.Canonical.{IsCanonical, AreFields, is_on, gives_output, clash, port_free, any_below, stage_of, greatest_of, last_stage}
use Rattle.cg_config.specs.Changes.{all_off, with_select, with_fields, LeavesPortsFree}
use Rattle.cg_model.proofs.Canonical.{zero_mode, zero_count, zero_word, greatest_below, greatest_same, any_none}

-- ---- tests of all numbers below one

any_at : (p : ℕ → Bool) (n i : ℕ) → any_below p n ≡ false → i < n → p i ≡ false
unfolding any_below
any_at p zero i e lt = absurd (omega arith)
any_at p (suc n) i e lt =
    let parts = or_parts (any_below p n) (p n) e in
    ⊎_elim (λ l. any_at p n i parts.0 l) (λ l. let same : n ≡ i = omega arith in subst (λ j. p j ≡ false) same parts.1) (cases_lt i n)

greatest_with : (f g : ℕ → ℕ) (n i v : ℕ) → i < n → g i ≡ max (f i) v → ((j : ℕ) → j < n → (j ≡ i → ⊥) → g j ≡ f j) → greatest_of g n ≡ max (greatest_of f n) v
unfolding greatest_of
greatest_with f g zero i v lt e h = absurd (omega arith)
greatest_with f g (suc n) i v lt e h =
    ⊎_elim (λ l. let before = greatest_with f g n i v l e (λ j k. h j (omega arith)) in let last = h n (omega arith) (λ same. omega arith) in omega arith)
    (λ l.
    let same : i ≡ n = omega arith in
    let before = greatest_same g f n (λ j k. h j (omega arith) (λ other. omega arith)) in
    let last : g n ≡ max (f n) v = subst (λ z. g z ≡ max (f z) v) same e in
    omega arith) (cases_lt i n)

-- ---- outputs

eqb-turned : (a b : ℕ) → eqb a b ≡ false → eqb b a ≡ false
eqb-turned a b e = ne_eqb b a (λ same. eqb-false a b e (sym same))

turned : (a b : Bool) (p q : ℕ) → (a && (b && eqb p q)) ≡ false → (b && (a && eqb q p)) ≡ false
turned true true p q e = eqb-turned p q e
turned true false p q e = refl
turned false true p q e = refl
turned false false p q e = refl

clash-turned : (f g : UnitFields) → clash f g ≡ false → clash g f ≡ false
clash-turned f g e = turned (gives_output f.op) (gives_output g.op) f.port g.port e

free_of : (A : Arch) (C : Config) (x slot : ℕ) → ((y s : ℕ) → y < length A.units → s < slot → clash (fields C y s) (fields C x slot) ≡ false) →
    ((y : ℕ) → y < x → clash (fields C y slot) (fields C x slot) ≡ false) → port_free A C x slot ≡ true
free_of A C x slot before within =
    let a = any_none (λ s. any_below (λ y. clash (fields C y s) (fields C x slot)) (length A.units)) slot (λ s l. any_none (λ y. clash (fields C y s) (fields C x slot)) (length A.units) (λ y k. before y s k l)) in
    let b = any_none (λ y. clash (fields C y slot) (fields C x slot)) x within in
    ap (λ z. not (z || any_below (λ y. clash (fields C y slot) (fields C x slot)) x)) a ∙ ap not b

parts_of : (A : Arch) (C : Config) (x slot : ℕ) → port_free A C x slot ≡ true →
    ((y s : ℕ) → y < length A.units → s < slot → clash (fields C y s) (fields C x slot) ≡ false) × ((y : ℕ) → y < x → clash (fields C y slot) (fields C x slot) ≡ false)
parts_of A C x slot e =
    let h = or_parts _ _ (not-true _ e) in (
      λ y s k l. any_at (λ z. clash (fields C z s) (fields C x slot)) (length A.units) y (any_at (λ t. any_below (λ z. clash (fields C z t) (fields C x slot)) (length A.units)) slot s h.0 l) k,
      λ y k. any_at (λ z. clash (fields C z slot) (fields C x slot)) x y h.1 k,
    )

-- ---- another select

module _ (A : Arch) (C : Config) (right : IsCanonical A C) (r slot value : ℕ) (known : r < length A.resources) (in_time : slot < C.ii) (most : value ≤ length (resource A r).drivers) where
  abbrev D : Config
  D = with_select C r slot value

  abbrev row : List ℕ
  row = slice_index_or C.selects slot []

  inside : slot < length C.selects
  inside = let e = right.slots.0 in omega arith

  row_there : (s : ℕ) → (s ≡ slot → ⊥) → slice_index_or D.selects s [] ≡ slice_index_or C.selects s []
  row_there s other = get_or-set_other C.selects slot s (slice_set row r value) [] other

  row_here : slice_index_or D.selects slot [] ≡ slice_set row r value
  row_here = get_or-set_same C.selects slot (slice_set row r value) [] inside

  long : (s : ℕ) → s < C.ii → length (slice_index_or D.selects s []) ≡ length A.resources
  long s lt =
      ⊎_elim (λ (e : s ≡ slot). ap (λ z. length (slice_index_or D.selects z [])) e ∙ ap length row_here ∙ length-set row r value ∙ (right.rows slot in_time).0)
      (λ other. ap length (row_there s other) ∙ (right.rows s lt).0) (cases_eq s slot)

  few : (q s : ℕ) → q < length A.resources → s < C.ii → select D q s ≤ length (resource A q).drivers
  few q s lt l =
      ⊎_elim (λ (e : s ≡ slot).
      let here : select D q s ≡ get_or (slice_set row r value) q 0 = ap (λ z. select D q z) e ∙ ap (λ xs. get_or xs q 0) row_here in
      ⊎_elim (λ (g : q ≡ r).
      let is : get_or (slice_set row r value) q 0 ≡ value = ap (λ z. get_or (slice_set row r value) z 0) g ∙ get_or-set_same row r value 0 (let n = (right.rows slot in_time).0 in omega arith) in
      let same = ap (λ z. length (resource A z).drivers) g in omega arith)
      (λ other. let is = get_or-set_other row r q value 0 other in let old = right.selects q slot lt in_time in omega arith) (cases_eq q r))
      (λ other. let is : select D q s ≡ select C q s = ap (λ xs. get_or xs q 0) (row_there s other) in let old = right.selects q s lt l in omega arith) (cases_eq s slot)

  pub select_canonical : IsCanonical A (with_select C r slot value)
  select_canonical =
      record {
        interval = right.interval;
        contexts = right.contexts;
        stages = right.stages;
        slots = (length-set C.selects slot (slice_set row r value) ∙ right.slots.0, right.slots.1);
        rows = λ s lt. (long s lt, (right.rows s lt).1);
        selects = few;
        fielded = right.fielded;
        free = right.free;
      }

-- ---- other fields

module _ (A : Arch) (C : Config) (right : IsCanonical A C) (x slot : ℕ) (f : UnitFields) (known : x < length A.units) (in_time : slot < C.ii) (are : AreFields (unit A x).ops f) (was_off : (fields C x slot).op ≡ None) (free : LeavesPortsFree A C f) where
  abbrev E : Config
  E = with_fields C x slot f

  abbrev units_row : List UnitFields
  units_row = slice_index_or C.units slot []

  row_else : (s : ℕ) → (s ≡ slot → ⊥) → slice_index_or E.units s [] ≡ slice_index_or C.units s []
  row_else s other = get_or-set_other C.units slot s (slice_set units_row x f) [] other

  row_set : slice_index_or E.units slot [] ≡ slice_set units_row x f
  row_set = get_or-set_same C.units slot (slice_set units_row x f) [] (let e = right.slots.1 in omega arith)

  fields_set : fields E x slot ≡ f
  fields_set = ap (λ xs. get_or xs x off) row_set ∙ get_or-set_same units_row x f off (let n = (right.rows slot in_time).1 in omega arith)

  fields_else : (y s : ℕ) → (y ≡ x → s ≡ slot → ⊥) → fields E y s ≡ fields C y s
  fields_else y s apart =
      ⊎_elim (λ (e : s ≡ slot).
      let other : y ≡ x → ⊥ = λ g. apart g e in
      ap (λ z. fields E y z) e ∙ ap (λ xs. get_or xs y off) row_set ∙ get_or-set_other units_row x y f off other ∙ ap (λ z. fields C y z) (sym e))
      (λ other. ap (λ xs. get_or xs y off) (row_else s other)) (cases_eq s slot)

  -- each field is the new one, or is as it was
  either : (y s : ℕ) → ((y ≡ x) × (s ≡ slot)) ⊎ (y ≡ x → s ≡ slot → ⊥)
  either y s = ⊎_elim (λ e. ⊎_elim (λ g. inl (e, g)) (λ other. inr (λ a b. other b)) (cases_eq s slot)) (λ other. inr (λ a b. other a)) (cases_eq y x)

  units_long : (s : ℕ) → s < C.ii → length (slice_index_or E.units s []) ≡ length A.units
  units_long s lt =
      ⊎_elim (λ (e : s ≡ slot). ap (λ z. length (slice_index_or E.units z [])) e ∙ ap length row_set ∙ length-set units_row x f ∙ (right.rows slot in_time).1)
      (λ other. ap length (row_else s other) ∙ (right.rows s lt).1) (cases_eq s slot)

  fields_right : (y s : ℕ) → y < length A.units → s < C.ii → AreFields (unit A y).ops (fields E y s)
  fields_right y s lt l =
      ⊎_elim (λ (h : (y ≡ x) × (s ≡ slot)).
      let is : fields E y s ≡ f = ap (λ z. fields E z s) h.0 ∙ ap (λ z. fields E x z) h.1 ∙ fields_set in
      subst (λ g. AreFields (unit A y).ops g) (sym is) (subst (λ z. AreFields (unit A z).ops f) (sym h.0) are))
      (λ apart. subst (λ g. AreFields (unit A y).ops g) (sym (fields_else y s apart)) (right.fielded y s lt l)) (either y s)

  pair : (y s z t : ℕ) → y < length A.units → s < C.ii → z < length A.units → t < C.ii → (z ≡ y → t ≡ s → ⊥) → clash (fields C z t) (fields C y s) ≡ false → clash (fields E z t) (fields E y s) ≡ false
  pair y s z t ly ls lz lt apart old =
      ⊎_elim (λ (h : (y ≡ x) × (s ≡ slot)).
      let is : fields E y s ≡ f = ap (λ k. fields E k s) h.0 ∙ ap (λ k. fields E x k) h.1 ∙ fields_set in
      let other : z ≡ x → t ≡ slot → ⊥ = λ a b. apart (a ∙ sym h.0) (b ∙ sym h.1) in
      ap (λ g. clash (fields E z t) g) is ∙ ap (λ g. clash g f) (fields_else z t other) ∙ free z t lz lt)
      (λ away.
      let kept = fields_else y s away in
      ⊎_elim (λ (h : (z ≡ x) × (t ≡ slot)).
      let is : fields E z t ≡ f = ap (λ k. fields E k t) h.0 ∙ ap (λ k. fields E x k) h.1 ∙ fields_set in
      ap (λ g. clash g (fields E y s)) is ∙ ap (λ g. clash f g) kept ∙ clash-turned (fields C y s) f (free y s ly ls))
      (λ far. ap (λ g. clash g (fields E y s)) (fields_else z t far) ∙ ap (λ g. clash (fields C z t) g) kept ∙ old) (either z t)) (either y s)

  ports_free : (y s : ℕ) → y < length A.units → s < C.ii → port_free A E y s ≡ true
  ports_free y s ly ls =
      let old = parts_of A C y s (right.free y s ly ls) in
      free_of A E y s (λ z t lz lt. pair y s z t ly ls lz (omega arith) (λ a b. omega arith) (old.0 z t lz lt)) (λ z lz. pair y s z s ly ls (omega arith) ls (λ a b. omega arith) (old.1 z lz))

  abbrev stages_in : Config → ℕ → ℕ
  stages_in K s = greatest_of (λ y. stage_of (fields K y s)) (length A.units)

  idle_before : stage_of (fields C x slot) ≡ 0
  idle_before = ap (λ (o : Option Op). cond (is_on o) (fields C x slot).stage 0) was_off

  stages_right : E.stages ≡ 1 + last_stage A E
  stages_right =
      let v = stage_of f in
      let here : stages_in E slot ≡ max (stages_in C slot) v =
      greatest_with (λ y. stage_of (fields C y slot)) (λ y. stage_of (fields E y slot)) (length A.units) x v known
      (let new = ap (λ (g : UnitFields). stage_of g) fields_set in let old = idle_before in omega arith)
      (λ y lt other. ap (λ (g : UnitFields). stage_of g) (fields_else y slot (λ a b. other a))) in
      let last = greatest_with (stages_in C) (stages_in E) C.ii slot v in_time here
      (λ s lt other. greatest_same (λ y. stage_of (fields E y s)) (λ y. stage_of (fields C y s)) (length A.units) (λ y l. ap (λ (g : UnitFields). stage_of g) (fields_else y s (λ a b. other b)))) in
      let old = right.stages in
      omega arith

  pub fields_canonical : IsCanonical A (with_fields C x slot f)
  fields_canonical =
      record {
        interval = right.interval;
        contexts = right.contexts;
        stages = stages_right;
        slots = (right.slots.0, length-set C.units slot (slice_set units_row x f) ∙ right.slots.1);
        rows = λ s lt. ((right.rows s lt).0, units_long s lt);
        selects = right.selects;
        fielded = fields_right;
        free = ports_free;
      }

-- ---- everything off

fields_off : (A : Arch) (ii x slot : ℕ) → x < length A.units → slot < ii → fields (all_off A ii) x slot ≡ off
fields_off A ii x slot lt in_time =
    ap (λ xs. get_or xs x off) (get_or-replicate ii slot (replicate (length A.units) off) [] in_time) ∙ get_or-replicate (length A.units) x off off lt

off_arg : (p : ℕ) → p < 3 → arg off p ≡ no_arg
off_arg p lt = get_or-replicate 3 p no_arg no_arg lt

off_right : (ops : List Op) → AreFields ops off
off_right ops =
    record {
      args = refl;
      inits = λ p lt. ap (λ (a : ArgFields). length a.init) (off_arg p lt);
      ports = omega arith;
      immediates = omega arith;
      init_words = λ p k lt l. subst (λ (a : ArgFields). get_or a.init k 0 < 2 ^ 32) (sym (off_arg p lt)) (subst (λ z. z < 2 ^ 32) (sym (get_or-replicate 4 k 0 0 l)) (omega arith));
      offer = refl;
      stage = refl;
      port = refl;
      immediate = refl;
      mode = λ p lt. zero_mode off p (off_arg p lt);
      count = λ p lt. zero_count off p (off_arg p lt);
      word = λ p k lt l. zero_word off p k l (off_arg p lt);
    }

pub off_canonical : (A : Arch) (ii : ℕ) → 0 < ii → ii ≤ A.contexts → IsCanonical A (all_off A ii)
off_canonical A ii some few =
    let C = all_off A ii in
    let stage : (x slot : ℕ) → x < length A.units → slot < ii → stage_of (fields C x slot) ≤ 0 = λ x slot lt in_time. let e = ap (λ (g : UnitFields). stage_of g) (fields_off A ii x slot lt in_time) in omega arith in
    let last = greatest_below (λ slot. greatest_of (λ x. stage_of (fields C x slot)) (length A.units)) ii 0 (λ slot in_time. greatest_below (λ x. stage_of (fields C x slot)) (length A.units) 0 (λ x lt. stage x slot lt in_time)) in
    let apart : (y s x slot : ℕ) → y < length A.units → s < ii → clash (fields C y s) (fields C x slot) ≡ false = λ y s x slot lt l. ap (λ (g : UnitFields). clash g (fields C x slot)) (fields_off A ii y s lt l) in
    record {
      interval = some;
      contexts = few;
      stages = omega arith;
      slots = (length-replicate ii (replicate (length A.resources) 0), length-replicate ii (replicate (length A.units) off));
      rows = λ slot in_time. (
        ap length (get_or-replicate ii slot (replicate (length A.resources) 0) [] in_time) ∙ length-replicate (length A.resources) 0,
        ap length (get_or-replicate ii slot (replicate (length A.units) off) [] in_time) ∙ length-replicate (length A.units) off,
      );
      selects = λ r slot lt in_time.
          let e : select C r slot ≡ 0 = ap (λ xs. get_or xs r 0) (get_or-replicate ii slot (replicate (length A.resources) 0) [] in_time) ∙ get_or-replicate (length A.resources) r 0 0 lt in
          omega arith;
      fielded = λ x slot lt in_time. subst (λ g. AreFields (unit A x).ops g) (sym (fields_off A ii x slot lt in_time)) (off_right (unit A x).ops);
      free = λ x slot lt in_time. free_of A C x slot (λ y s l k. apart y s x slot l (omega arith)) (λ y l. apart y slot x slot (omega arith) in_time);
    }
