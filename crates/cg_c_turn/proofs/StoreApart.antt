-- Arrays lie apart, so a store to one of them changes no other.
use Rattle.std.proofs.Common.{◌≡◌, ℕ, zero, suc, ◌+◌, ◌<◌, ◌≤◌, List, [], ◌∷◌, length, Contains, Option, Some, None, slice_index, slice_set, refl, sym, ap, ◌∙◌, arith, subst, ⊎_elim}
use Rattle.std.proofs.lemmas.Bool.{cases_lt}
use Rattle.std.proofs.lemmas.List.{get_or_default, get_or-set_other, length-set}
use Rattle.std.proofs.lemmas.Option.{none-some}
use Rattle.cg_c_check.specs.declared.program.Array.{Array}
use Rattle.cg_c_check.specs.Arrays.{size_of}
use Rattle.cg_c_values.specs.Values.{Words}
use Rattle.cg_c_meaning.specs.Typed.{AreArranged, table_in}
use Rattle.cg_c_turn.specs.Draft.{Stored}
use Rattle.cg_c_turn.specs.Leads.{IsInside, array_of}
use Rattle.cg_c_turn.specs.Stands.{HasTable, IsFresh}

-- ---- arrays

starts_from : (start : ℕ) (arrays : List Array) (k : ℕ) → AreArranged start arrays → k < length arrays → start ≤ (array_of arrays k).start
starts_from start [] k h lt = absurd (omega (arith, lt))
starts_from start (a ∷ further) zero h lt = let e = h.0 in omega (arith, e)
starts_from start (a ∷ further) (suc k) h lt = let r = starts_from (start + size_of a.dimensions) further k h.3 (omega (arith, lt)) in omega (arith, r)

ends_before : (start : ℕ) (arrays : List Array) (j k : ℕ) → AreArranged start arrays → j < k → k < length arrays → (array_of arrays j).start + size_of (array_of arrays j).dimensions ≤ (array_of arrays k).start
ends_before start [] j k h less lt = absurd (omega (arith, lt))
ends_before start (a ∷ further) j zero h less lt = absurd (omega (arith, less))
ends_before start (a ∷ further) zero (suc k) h less lt = let e = h.0 in let r = starts_from (start + size_of a.dimensions) further k h.3 (omega (arith, lt)) in omega (arith, e, r)
ends_before start (a ∷ further) (suc j) (suc k) h less lt = ends_before (start + size_of a.dimensions) further j k h.3 (omega (arith, less)) (omega (arith, lt))

-- an address is inside one array at most
pub one_array : (arrays : List Array) (j k address : ℕ) → AreArranged 0 arrays → IsInside arrays j address → IsInside arrays k address → j ≡ k
one_array arrays j k address h p q =
    ⊎_elim (λ (less : j < k). let e = ends_before 0 arrays j k h less q.there in absurd (omega (arith, e, p.below, q.from)))
    (λ (at_least : k ≤ j).
    ⊎_elim (λ (less : k < j). let e = ends_before 0 arrays k j h less p.there in absurd (omega (arith, e, q.below, p.from))) (λ (at_most : j ≤ k). omega (arith, at_least, at_most)) (cases_lt k j))
    (cases_lt j k)

pub other_address : (arrays : List Array) (j k a b : ℕ) → AreArranged 0 arrays → (j ≡ k → ⊥) → IsInside arrays j a → IsInside arrays k b → a ≡ b → ⊥
other_address arrays j k a b h apart p q same = apart (one_array arrays j k a h p (subst (IsInside arrays k) (sym same) q))

table_is : (arrays : List Array) (k : ℕ) → table_in arrays k ≡ (array_of arrays k).table
table_is [] k = refl
table_is (a ∷ further) zero = refl
table_is (a ∷ further) (suc k) = table_is further k

-- ---- memory

pub elsewhere_kept : (memory : List ℕ) (address word other : ℕ) → (other ≡ address → ⊥) → slice_index memory other ≡ slice_index (slice_set memory address word) other
elsewhere_kept memory address word other apart = sym (get_or-set_other memory address other word 0 apart)

pub room_kept : (memory : List ℕ) (address word n : ℕ) → n ≤ length memory → n ≤ length (slice_set memory address word)
room_kept memory address word n h = let e = length-set memory address word in omega (arith, e, h)

table_kept : (arrays : List Array) (memory : List ℕ) (address word array k : ℕ) (a : Array) (o : Option (List ℕ)) → AreArranged 0 arrays → IsInside arrays array address → table_in arrays array ≡ None → k < length arrays → array_of arrays k ≡ a → a.table ≡ o → HasTable memory a o → HasTable (slice_set memory address word) a o
table_kept arrays memory address word array k a None h inside none lt is has t = tt
table_kept arrays memory address word array k a (Some table) h inside none lt is has t = (
  t.0,
  λ i below.
      sym (elsewhere_kept memory address word (a.start + i) (λ same.
      other_address arrays k array (a.start + i) address h
      (λ e. none-some table (sym none ∙ table_is arrays array ∙ ap (λ (n : ℕ). (array_of arrays n).table) (sym e) ∙ ap (λ (z : Array). z.table) is ∙ has))
      (subst (λ (z : Array). IsInside arrays k (z.start + i)) is (record { there = lt; from = omega arith; below = let z = t.0 in let s = ap (λ (z : Array). size_of z.dimensions) is in omega (arith, z, s, below) })) inside same))
      ∙ t.1 i below,
)

-- a store to an array that is no table leaves the tables as they are
pub tables_kept : (arrays : List Array) (memory : List ℕ) (address word array : ℕ) (a : Array) → AreArranged 0 arrays → IsInside arrays array address → table_in arrays array ≡ None → Contains arrays a → HasTable memory a a.table → HasTable (slice_set memory address word) a a.table
tables_kept arrays memory address word array a h inside none there t =
    table_kept arrays memory address word array there.0 a a.table h inside none there.1 (get_or_default arrays there.0 (record { name = []; dimensions = []; start = 0; table = None }) a there.1 ∙ there.2) refl t

-- a store to one array leaves what was stored to another
pub fresh_kept : (arrays : List Array) (E : Words) (memory : List ℕ) (address word array n : ℕ) (o : Option Stored) → AreArranged 0 arrays → IsInside arrays array address → (n ≡ array → ⊥) → IsFresh arrays E memory n o → IsFresh arrays E (slice_set memory address word) n o
fresh_kept arrays E memory address word array n None h inside apart f = tt
fresh_kept arrays E memory address word array n (Some s) h inside apart f = λ holding.
    let g = f holding in
    (g.0, g.1 ∙ elsewhere_kept memory address word (E s.address) (other_address arrays n array (E s.address) address h apart g.0 inside))
