-- Lists of resources and of numbers.
use Rattle.std.proofs.Common.{◌≡◌, ◌≢◌, ℕ, ◌+◌, ◌<◌, ◌≤◌, List, length, get_or, set, length-set, Bool, true, false, refl, sym, ap, ◌∙◌, subst, arith, ⊎_elim, Contains}
use Rattle.std.specs.Prelude.{Option, Some, None, slice_index}
use Rattle.std.specs.Option.{is_some}
use Rattle.std.proofs.lemmas.Bool.{cases_eq}
use Rattle.std.proofs.lemmas.List.{get_or-set_same, get_or-set_other, get_or_default}
use Rattle.std.proofs.lemmas.Grind.{get_or_default_zero}
use Rattle.std.proofs.lemmas.List.Elements.{Contains-get_or}
use Rattle.cg_bound_routes.specs.Search.{number, HasNumber, AreMarks, AreBelow}

-- what is there has a value
some_value : (o : Option ℕ) → is_some o ≡ true → (m : ℕ) × (o ≡ Some m)
some_value None h = absurd (cc)
some_value (Some m) h = (m, refl)

-- one more place is passed
pub passed_more : (numbers : List (Option ℕ)) (front : List ℕ) (at place : ℕ) → is_some (number numbers (slice_index front place)) ≡ true →
    ((i : ℕ) → at ≤ i → i < place → HasNumber numbers (slice_index front i)) → (i : ℕ) → at ≤ i → i < place + 1 → HasNumber numbers (slice_index front i)
passed_more numbers front at place h before i low high =
    ⊎_elim {C = HasNumber numbers (slice_index front i)} (λ e. some_value _ (subst (λ z. is_some (number numbers (slice_index front z)) ≡ true) (sym e) h))
    (λ ne. before i low (omega arith)) (cases_eq i place)

-- the place of an element
pub at_place : (xs : List ℕ) (x : ℕ) → Contains xs x → (i : ℕ) × (i < length xs) × (slice_index xs i ≡ x)
at_place xs x (k, l, e) = (k, l, sym (get_or_default_zero xs k x l) ∙ e)

pub from_place : (xs : List ℕ) (i x : ℕ) → i < length xs → slice_index xs i ≡ x → Contains xs x
from_place xs i x l e = subst (Contains xs) e (Contains-get_or xs i 0 l)

-- all resources of a list are marked, and no others
pub is_marked : (list : List ℕ) (count : ℕ) (marks : List Bool) → AreMarks list (length list) count marks → (r : ℕ) → Contains list r → get_or marks r false ≡ true
is_marked list count marks m r c = (m.right r).1 (at_place list r c)

pub from_marked : (list : List ℕ) (count : ℕ) (marks : List Bool) → AreMarks list (length list) count marks → (r : ℕ) → get_or marks r false ≡ true → Contains list r
from_marked list count marks m r h = let (i, l, e) = (m.right r).0 h in from_place list i r l e

-- an element of a list of resources is one
pub below_at : (count : ℕ) (list : List ℕ) (i : ℕ) → AreBelow count list → i < length list → slice_index list i < count
below_at count list i below l = below (slice_index list i) (Contains-get_or list i 0 l)

pub below_same : (count count' : ℕ) (list : List ℕ) → count ≡ count' → AreBelow count list → AreBelow count' list
below_same count count' list e below = λ r c. let h = below r c in omega arith

-- one more resource is marked
pub marked_more : (list : List ℕ) (place count : ℕ) (marks : List Bool) → slice_index list place < count → AreMarks list place count marks → AreMarks list (place + 1) count (set marks (slice_index list place) true)
marked_more list place count marks known m = record {
  each = length-set marks (slice_index list place) true ∙ m.each;
  right = λ r. (after r, before r);
}
  where
    here : get_or (set marks (slice_index list place) true) (slice_index list place) false ≡ true
    here = let e = m.each in get_or-set_same marks (slice_index list place) true false (omega arith)

    there : (r : ℕ) → r ≢ slice_index list place → get_or (set marks (slice_index list place) true) r false ≡ get_or marks r false
    there r ne = get_or-set_other marks (slice_index list place) r true false ne

    after : (r : ℕ) → get_or (set marks (slice_index list place) true) r false ≡ true → (i : ℕ) × (i < place + 1) × (slice_index list i ≡ r)
    after r h =
        ⊎_elim {C = (i : ℕ) × (i < place + 1) × (slice_index list i ≡ r)} (λ e. (place, omega arith, sym e))
        (λ ne. let (i, l, e) = (m.right r).0 (sym (there r ne) ∙ h) in (i, omega arith, e)) (cases_eq r (slice_index list place))

    before : (r : ℕ) → (i : ℕ) × (i < place + 1) × (slice_index list i ≡ r) → get_or (set marks (slice_index list place) true) r false ≡ true
    before r (i, l, e) =
        ⊎_elim {C = get_or (set marks (slice_index list place) true) r false ≡ true} (λ f. subst (λ z. get_or (set marks (slice_index list place) true) z false ≡ true) (sym f) here)
        (λ ne. there r ne ∙ (m.right r).1 (i, ⊎_elim {C = i < place} (λ g. absurd (ne (sym e ∙ ap (slice_index list) g))) (λ g. omega arith) (cases_eq i place), e)) (cases_eq r (slice_index list place))

-- a mark that is read
pub read_mark : (marks : List Bool) (r : ℕ) (b : Bool) → r < length marks → b ≡ get_or marks r b → b ≡ get_or marks r false
read_mark marks r b l e = e ∙ get_or_default marks r b false l
