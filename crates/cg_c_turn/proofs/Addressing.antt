-- The addresses of elements.
use Rattle.std.proofs.Common.{◌≡◌, ◌⊎◌, ℕ, zero, suc, ◌+◌, ◌*◌, ◌%◌, ◌<◌, ◌≤◌, nat_lt, min, if◌then◌else◌, Bool, true, false, List, [], ◌∷◌, length, map, Option, Some, None, option_map, get_or, drop, drop-cons, slice_get, refl, sym, ap, ap₂, ◌∙◌, arith, subst, inl, inr}
use Rattle.std.proofs.Math.Nat.{mod-eq_of_lt, mul-le-mul_left}
use Rattle.std.proofs.Math.ListN.{drop_of_length-le}
use Rattle.std.proofs.lemmas.Option.{get_or_from_slice_get, slice_get_read}
use Rattle.std.proofs.lemmas.Bool.{ltb-true, ltb-false}
use Rattle.cg_word.specs.Word.{words, apply_of}
use Rattle.cg_word.specs.declared.op.Op.TheVariants as ops
use Rattle.cg_model.proofs.Lookups.{Contains-get}
use Rattle.cg_c_check.specs.declared.program.Array.{Array}
use Rattle.cg_c_check.specs.Arrays.{size_of, most_memory}
use Rattle.cg_c_values.specs.declared.value.Value.{Value}
use Rattle.cg_c_values.specs.Values.{Moment, Words, Fits, Extends, Means}
use Rattle.cg_c_meaning.specs.Meaning.{place_in, address_in}
use Rattle.cg_c_meaning.specs.Typed.{AreArranged}
use Rattle.cg_c_turn.specs.Draft.{Draft}
use Rattle.cg_c_turn.specs.Leads.{array_of}
use Rattle.cg_c_turn.specs.Stands.{AreBelow, IsFormed}
use Rattle.cg_c_turn.specs.Pieces.{Addresses, Places}
use Rattle.cg_c_turn.proofs.Growing.{extends_refl, extends_then, fits_back, steps_with}

-- ---- places

pub record Row (d i : ℕ) (ds is : List ℕ) (row p : ℕ) : Type 0 where
  pub below : i < d
  pub further : place_in ds (row * d + i) is ≡ Some p

row_if : (d i : ℕ) (ds is : List ℕ) (row p : ℕ) (b : Bool) → nat_lt i d ≡ b → (if b then place_in ds (row * d + i) is else None) ≡ Some p → Row d i ds is row p
row_if d i ds is row p true e h = record { below = ltb-true i d e; further = h }
row_if d i ds is row p false e h = absurd (cc)

pub row_of : (d i : ℕ) (ds is : List ℕ) (row p : ℕ) → place_in (d ∷ ds) row (i ∷ is) ≡ Some p → Row d i ds is row p
row_of d i ds is row p h = row_if d i ds is row p (nat_lt i d) refl h

number_of : Option ℕ → ℕ
number_of None = 0
number_of (Some n) = n

some_same : (m n : ℕ) → Some m ≡ Some n → m ≡ n
unfolding number_of
some_same m n h = ap number_of h

row_grows : (row d i : ℕ) → i < d → row ≤ row * d + i
row_grows row d i h = omega (arith, mul-le-mul_left {m = 1} {n = d} row (omega arith))

pub place_most : (ds is : List ℕ) (row p : ℕ) → place_in ds row is ≡ Some p → row ≤ p
place_most [] [] row p h = omega (arith, some_same row p h)
place_most [] (i ∷ is) row p h = absurd (cc)
place_most (d ∷ ds) [] row p h = absurd (cc)
place_most (d ∷ ds) (i ∷ is) row p h =
    let r = row_of d i ds is row p h in
    omega (arith, row_grows row d i r.below, place_most ds is (row * d + i) p r.further)

bound_grows : (row d i s p : ℕ) → i < d → p < (row * d + i + 1) * s → p < (row + 1) * (d * s)
bound_grows row d i s p h k =
    let e : row * d + i + 1 ≤ (row + 1) * d = omega arith in
    omega (arith, mul-le-mul_left {m = row * d + i + 1} {n = (row + 1) * d} s e)

pub place_bound : (ds is : List ℕ) (row p : ℕ) → place_in ds row is ≡ Some p → p < (row + 1) * size_of ds
place_bound [] [] row p h = omega (arith, some_same row p h)
place_bound [] (i ∷ is) row p h = absurd (cc)
place_bound (d ∷ ds) [] row p h = absurd (cc)
place_bound (d ∷ ds) (i ∷ is) row p h =
    let r = row_of d i ds is row p h in
    bound_grows row d i (size_of ds) p r.below (place_bound ds is (row * d + i) p r.further)

place_ends : (ds is : List ℕ) (row p : ℕ) → (ds ≡ []) ⊎ (is ≡ []) → place_in ds row is ≡ Some p → row ≡ p
place_ends [] [] row p e h = some_same row p h
place_ends [] (i ∷ is) row p e h = absurd (cc)
place_ends (d ∷ ds) [] row p e h = absurd (cc)
place_ends (d ∷ ds) (i ∷ is) row p (inl e) h = absurd (cc)
place_ends (d ∷ ds) (i ∷ is) row p (inr e) h = absurd (cc)

-- ---- words of places

row_word : (row d i : ℕ) → row * d + i < words → apply_of ops.Add (apply_of ops.Mul row d 0) i 0 ≡ row * d + i
unfolding apply_of
row_word row d i h =
    ap (λ z. (z + i) % words) (mod-eq_of_lt {n = row * d} {m = words} (omega arith)) ∙ mod-eq_of_lt {n = row * d + i} {m = words} h

sum_word : (place start : ℕ) → place + start < words → apply_of ops.Add place start 0 ≡ start + place
unfolding apply_of
sum_word place start h = mod-eq_of_lt {n = place + start} {m = words} h ∙ omega arith

-- so far: the value of the place among the rows of the first k dimensions
pub record PlacesFrom (old new : List Value) (dimensions indices : List ℕ) (k r : ℕ) : Type 0 where
  pub kept : Extends old new
  pub within : r < length new
  pub is : (x : Moment) (E : Words) (p : ℕ) → Fits new x E → place_in dimensions 0 (map E indices) ≡ Some p → p < words → place_in (drop k dimensions) (E r) (map E (drop k indices)) ≡ Some p

pub places_begin : (vs : List Value) (dimensions indices : List ℕ) (first : ℕ) → slice_get indices 0 ≡ Some first → AreBelow (length vs) indices → PlacesFrom vs vs dimensions indices 1 first
places_begin vs dimensions [] first e below = absurd (cc)
places_begin vs [] (i ∷ is) first e below = record {
  kept = extends_refl vs;
  within = below first (Contains-get (i ∷ is) 0 first e);
  is = λ x E p fits h small. absurd (cc);
}
places_begin vs (d ∷ ds) (i ∷ is) first e below = record {
  kept = extends_refl vs;
  within = below first (Contains-get (i ∷ is) 0 first e);
  is = λ x E p fits h small.
      let r = row_of d (E i) ds (map E is) 0 p h in
      let same : 0 * d + E i ≡ E first = omega (arith, ap E (some_same i first e)) in
      subst (λ z. place_in ds z (map E is) ≡ Some p) same r.further;
}

pub places_more : (old vs new : List Value) (dimensions indices : List ℕ) (k place d i r : ℕ) → PlacesFrom old vs dimensions indices k place → k < length dimensions → k < length indices → get_or dimensions k 0 ≡ d → get_or indices k 0 ≡ i
    → Extends vs new → Means new r (λ x E. apply_of ops.Add (apply_of ops.Mul (E place) d 0) (E i) 0) → PlacesFrom old new dimensions indices (k + 1) r
places_more old vs new dimensions indices k place d i r h kd ki ed ei kept means = record {
  kept = extends_then old vs new h.kept kept;
  within = means.within;
  is = λ x E p fits e small.
      let f = fits_back vs new x E kept fits in
      let here = h.is x E p f e small in
      let one : suc k ≡ k + 1 = omega arith in
      let de : drop k dimensions ≡ d ∷ drop (k + 1) dimensions = drop-cons dimensions k 0 kd ∙ ap₂ (λ (y z : ℕ). y ∷ drop z dimensions) ed one in
      let ie : map E (drop k indices) ≡ E i ∷ map E (drop (k + 1) indices) = ap (map E) (drop-cons indices k 0 ki ∙ ap₂ (λ (y z : ℕ). y ∷ drop z indices) ei one) in
      let split : place_in (d ∷ drop (k + 1) dimensions) (E place) (E i ∷ map E (drop (k + 1) indices)) ≡ Some p =
      subst (λ (z : List ℕ). place_in (d ∷ drop (k + 1) dimensions) (E place) z ≡ Some p) ie (subst (λ (z : List ℕ). place_in z (E place) (map E (drop k indices)) ≡ Some p) de here) in
      let row = row_of d (E i) (drop (k + 1) dimensions) (map E (drop (k + 1) indices)) (E place) p split in
      let most = place_most (drop (k + 1) dimensions) (map E (drop (k + 1) indices)) (E place * d + E i) p row.further in
      subst (λ z. place_in (drop (k + 1) dimensions) z (map E (drop (k + 1) indices)) ≡ Some p) (sym (means.is x E fits ∙ row_word (E place) d (E i) (omega (arith, most, small)))) row.further;
}

drop_all : (xs : List ℕ) (k : ℕ) → length xs ≤ k → drop k xs ≡ []
drop_all xs k h = drop_of_length-le xs h

none_left : (dimensions indices : List ℕ) (k : ℕ) (E : Words) → (length dimensions ≤ k) ⊎ (length indices ≤ k) → (drop k dimensions ≡ []) ⊎ (map E (drop k indices) ≡ [])
none_left dimensions indices k E (inl h) = inl (drop_all dimensions k h)
none_left dimensions indices k E (inr h) = inr (ap (map E) (drop_all indices k h))

pub places_end : (old new : List Value) (dimensions indices : List ℕ) (k r : ℕ) → PlacesFrom old new dimensions indices k r → (length dimensions ≤ k) ⊎ (length indices ≤ k) → Places old new dimensions indices r
places_end old new dimensions indices k r h past = record {
  kept = h.kept;
  within = h.within;
  is = λ x E p fits e small. place_ends (drop k dimensions) (map E (drop k indices)) (E r) p (none_left dimensions indices k E past) (h.is x E p fits e small);
}

pub places_none : (old new : List Value) (dimensions indices : List ℕ) (r : ℕ) → None ≡ slice_get indices 0 → Extends old new → Means new r (λ x E. 0) → Places old new dimensions indices r
places_none old new dimensions (i ∷ is) r e kept means = absurd (cc)
places_none old new [] [] r e kept means = record { kept = kept; within = means.within; is = λ x E p fits h small. means.is x E fits ∙ some_same 0 p h }
places_none old new (d ∷ ds) [] r e kept means = record { kept = kept; within = means.within; is = λ x E p fits h small. absurd (cc) }

-- ---- arrays

starts_within : (start : ℕ) (arrays : List Array) → AreArranged start arrays → start ≤ most_memory
starts_within start [] h = h
starts_within start (a ∷ further) h = omega (arith, starts_within (start + size_of a.dimensions) further h.3)

pub ends_within : (start : ℕ) (arrays : List Array) (n : ℕ) → AreArranged start arrays → n < length arrays → (array_of arrays n).start + size_of (array_of arrays n).dimensions ≤ most_memory
ends_within start [] n h k = absurd (omega arith)
ends_within start (a ∷ further) zero h k = omega (arith, h.0, starts_within (start + size_of a.dimensions) further h.3)
ends_within start (a ∷ further) (suc n) h k = ends_within (start + size_of a.dimensions) further n h.3 (omega arith)

-- an address that an element has
pub record Placed (a : Array) (indices : List ℕ) (address : ℕ) : Type 0 where
  pub place : ℕ
  pub is : place_in a.dimensions 0 indices ≡ Some place
  pub same : a.start + place ≡ address

placed_if : (a : Array) (indices : List ℕ) (address : ℕ) (o : Option ℕ) → place_in a.dimensions 0 indices ≡ o → option_map (λ place. a.start + place) o ≡ Some address → Placed a indices address
placed_if a indices address None e h = absurd (cc)
placed_if a indices address (Some p) e h = record { place = p; is = e; same = some_same (a.start + p) address h }

pub placed : (a : Array) (indices : List ℕ) (address : ℕ) → address_in a indices ≡ Some address → Placed a indices address
placed a indices address h = placed_if a indices address (place_in a.dimensions 0 indices) refl h

pub addressed : (d : Draft) (vs ws new : List Value) (array : ℕ) (indices : List ℕ) (place start r : ℕ) → IsFormed d → array < length d.arrays
    → Places d.values vs (array_of d.arrays array).dimensions indices place → Extends vs ws → Means ws start (λ x E. (array_of d.arrays array).start) → Extends ws new → Means new r (λ x E. apply_of ops.Add (E place) (E start) 0)
    → Addresses d (record d { values = new }) array indices r
addressed d vs ws new array indices place start r f there places k s l h = record {
  steps = steps_with d new f (extends_then d.values ws new (extends_then d.values vs ws places.kept k) l);
  within = h.within;
  is = λ x E address fits e.
      let a = array_of d.arrays array in
      let p = placed a (map E indices) address e in
      let room = ends_within 0 d.arrays array f.arranged there in
      let bound = place_bound a.dimensions (map E indices) 0 p.place p.is in
      let small : p.place < size_of a.dimensions = omega (arith, bound) in
      let fw = fits_back ws new x E l fits in
      let here = places.is x E p.place (fits_back vs ws x E k fw) p.is (omega (arith, small, room)) in (
        h.is x E fits ∙ ap₂ (λ y z. apply_of ops.Add y z 0) here (s.is x E fw) ∙ sum_word p.place a.start (omega (arith, small, room)) ∙ p.same,
        record { there = there; from = omega (arith, p.same); below = omega (arith, p.same, small) },
      );
}

past_if : (m n k : ℕ) (b : Bool) → nat_lt k n ≡ b → min m n ≤ k → (n ≤ k) ⊎ (m ≤ k)
past_if m n k true e h = let l = ltb-true k n e in inr (omega arith)
past_if m n k false e h = inl (ltb-false k n e)

pub past_of : (m n k : ℕ) → min m n ≤ k → (n ≤ k) ⊎ (m ≤ k)
past_of m n k h = past_if m n k (nat_lt k n) refl h

shape_is : (arrays : List Array) (n : ℕ) (shape d : Array) → n < length arrays → shape ≡ get_or arrays n shape → shape ≡ get_or arrays n d
shape_is arrays n shape d h e = sym (get_or_from_slice_get arrays n shape d (slice_get_read arrays (length arrays) n shape refl h e))

pub array_is : (arrays : List Array) (n : ℕ) (shape : Array) → n < length arrays → shape ≡ get_or arrays n shape → shape ≡ array_of arrays n
array_is arrays n shape h e = shape_is arrays n shape (record { name = []; dimensions = []; start = 0; table = None }) h e

pub addressed_by : (d : Draft) (vs ws new : List Value) (array : ℕ) (indices dimensions : List ℕ) (shape : Array) (place start r : ℕ) → IsFormed d → array < length d.arrays → shape ≡ get_or d.arrays array shape → dimensions ≡ shape.dimensions
    → Places d.values vs dimensions indices place → Extends vs ws → Means ws start (λ x E. shape.start) → Extends ws new → Means new r (λ x E. apply_of ops.Add (E place) (E start) 0)
    → Addresses d (record d { values = new }) array indices r
addressed_by d vs ws new array indices dimensions shape place start r f there is same places k s l h =
    let e = array_is d.arrays array shape there is in
    addressed d vs ws new array indices place start r f there
    (subst (λ (z : List ℕ). Places d.values vs z indices place) (same ∙ ap (λ (z : Array). z.dimensions) e) places) k
    (subst (λ (z : Array). Means ws start (λ x E. z.start)) e s) l h
