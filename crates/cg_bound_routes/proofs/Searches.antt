-- What the steps of a search make of what is known of it.
use Rattle.std.proofs.Common.{◌≡◌, ℕ, ◌+◌, ◌*◌, ◌≤◌, List, ◌++◌, length, set, true, false, eqb, refl, sym, ap, ◌∙◌, subst, arith, ⊎_elim, Contains}
use Rattle.std.specs.Prelude.{Option, Some, None, replicate}
use Rattle.std.proofs.lemmas.Bool.{cases_eq, cond-true, cond-false}
use Rattle.std.proofs.lemmas.List.{get_or-set_other}
use Rattle.std.proofs.lemmas.List.Folds.{sum_by-replicate}
use Rattle.cg_model.specs.Array.{Arch, IsArch, resource, delay}
use Rattle.cg_bound_routes.specs.declared.search.Search.{Search}
use Rattle.cg_bound_routes.specs.Ways.{IsSmall}
use Rattle.cg_bound_routes.specs.Search.{number, lacks, lacking, IsUnderWay, IsSearch, AreBelow, IsBegun, IsSkipped, IsRisen, IsOpen, IsOver, IsSettled, Joins, IsFound}
use Rattle.cg_bound_routes.proofs.Marks.{from_place}
use Rattle.cg_bound_routes.proofs.Steps.{begins, none_numbered, skips, rises}
use Rattle.cg_bound_routes.proofs.Settled.{delay_cases, settled_front, settled_later, numbered}
use Rattle.cg_bound_routes.proofs.Found.{least_found, none_found}
use Rattle.cg_bound_routes.proofs.Least.{found_none}

moved : (A : Arch) (ends : List ℕ) (n n' : List (Option ℕ)) (l l' : ℕ) (f f' : List ℕ) (at at' : ℕ) (w w' : List ℕ) → n' ≡ n → l' ≡ l → f' ≡ f → at' ≡ at → w' ≡ w →
    IsUnderWay A ends n l f at w → IsUnderWay A ends n' l' f' at' w'
moved A ends n n' l l' f f' at at' w w' a b c d e h =
    subst (λ z. IsUnderWay A ends z l' f' at' w') (sym a)
    (subst (λ z. IsUnderWay A ends n z f' at' w') (sym b)
    (subst (λ z. IsUnderWay A ends n l z at' w') (sym c)
    (subst (λ z. IsUnderWay A ends n l f z w') (sym d)
    (subst (λ z. IsUnderWay A ends n l f at z) (sym e) h))))

pub begun : (A : Arch) (ends : List ℕ) (count : ℕ) (s : Search) → count ≡ length A.resources → AreBelow (length A.resources) ends → IsBegun ends count s → IsSearch A ends s
begun A ends count s e below is =
    moved A ends _ s.numbers.items _ s.level _ s.front.items _ s.at _ s.later.items (is.numbers ∙ ap (λ z. replicate z None) e) is.level is.front is.at is.later (begins A ends below)

pub skipped : (A : Arch) (ends : List ℕ) (s t : Search) → IsSkipped s t → IsSearch A ends s → IsSearch A ends t
skipped A ends s t is h =
    moved A ends _ t.numbers.items _ t.level _ t.front.items _ t.at _ t.later.items is.numbers is.level is.front refl is.later
    (skips A ends s.numbers.items s.level s.front.items s.at s.later.items h t.at is.at)

pub risen : (A : Arch) (ends : List ℕ) (s t : Search) → IsRisen s t → s.at ≡ length s.front.items → IsSearch A ends s → IsSearch A ends t
risen A ends s t is e h =
    moved A ends _ t.numbers.items _ t.level _ t.front.items _ t.at _ t.later.items is.numbers is.level is.front is.at is.later
    (rises A ends s.numbers.items s.level s.front.items s.at s.later.items h e)

pub open_front : (r : ℕ) (s : Search) → IsOpen r s → Contains s.front.items r
open_front r s (l, e, n) = from_place s.front.items s.at r l e

module _ (A : Arch) (valid : IsArch A) (ends : List ℕ) (r : ℕ) (s : Search) (is_open : IsOpen r s) (h : IsSearch A ends s) where
  fronted : delay A r ≡ 0 → IsUnderWay A ends (set s.numbers.items r (Some s.level)) s.level (s.front.items ++ (resource A r).drivers) s.at s.later.items
  fronted = settled_front A valid ends s.numbers.items s.level s.front.items s.at s.later.items h r is_open.2 (open_front r s is_open)

  later_on : delay A r ≡ 1 → IsUnderWay A ends (set s.numbers.items r (Some s.level)) s.level s.front.items s.at (s.later.items ++ (resource A r).drivers)
  later_on = settled_later A valid ends s.numbers.items s.level s.front.items s.at s.later.items h r is_open.2 (open_front r s is_open)

  pub settled : (t : Search) → IsSettled A r s t → IsSearch A ends t
  settled t is =
      ⊎_elim {C = IsSearch A ends t}
      (λ z. let b : eqb (delay A r) 0 ≡ true = ap (λ n. eqb n 0) z in
      moved A ends _ t.numbers.items _ t.level _ t.front.items _ t.at _ t.later.items is.numbers is.level
      (is.front ∙ cond-true (eqb (delay A r) 0) _ _ b) is.at (is.later ∙ cond-true (eqb (delay A r) 0) _ _ b) (fronted z))
      (λ z. let b : eqb (delay A r) 0 ≡ false = ap (λ n. eqb n 0) z in
      moved A ends _ t.numbers.items _ t.level _ t.front.items _ t.at _ t.later.items is.numbers is.level
      (is.front ∙ cond-false (eqb (delay A r) 0) _ _ b) is.at (is.later ∙ cond-false (eqb (delay A r) 0) _ _ b) (later_on z))
      (delay_cases (resource A r).kind)

  -- one resource less lacks a number
  less : lacking (set s.numbers.items r (Some s.level)) + 1 ≡ lacking s.numbers.items
  less = numbered A valid ends s.numbers.items s.level s.front.items s.at s.later.items h r is_open.2 (open_front r s is_open)

  pub fewer : (t : Search) → IsSettled A r s t → lacking t.numbers.items + 1 ≡ lacking s.numbers.items
  fewer t is =
      let same : lacking t.numbers.items ≡ lacking (set s.numbers.items r (Some s.level)) = ap lacking is.numbers in
      let one = less in
      omega arith

  -- the number of the front is small
  pub small_level : (level : ℕ) → s.level ≤ level + 1 → level + lacking s.numbers.items ≤ length A.resources → IsSmall (length A.resources) (Some s.level)
  small_level level up few = λ n e. let one = less in let same : s.level ≡ n = cc in omega arith

  -- those from which a way is sought have no numbers
  pub still_unmet : (from : List ℕ) (t : Search) → IsSettled A r s t → ((q : ℕ) → Contains from q → number s.numbers.items q ≡ None) → (Contains from r → ⊥) →
      (q : ℕ) → Contains from q → number t.numbers.items q ≡ None
  still_unmet from t is unmet not q c =
      ap (λ z. number z q) is.numbers ∙
      ⊎_elim {C = number (set s.numbers.items r (Some s.level)) q ≡ None} (λ e. absurd (not (subst (Contains from) e c)))
      (λ ne. get_or-set_other s.numbers.items r q (Some s.level) None ne ∙ unmet q c) (cases_eq q r)

pub unmet_same : (from : List ℕ) (s t : Search) → t.numbers.items ≡ s.numbers.items → ((q : ℕ) → Contains from q → number s.numbers.items q ≡ None) → (q : ℕ) → Contains from q → number t.numbers.items q ≡ None
unmet_same from s t e unmet q c = ap (λ z. number z q) e ∙ unmet q c

pub begun_unmet : (ends : List ℕ) (count : ℕ) (s : Search) → IsBegun ends count s → (q : ℕ) → number s.numbers.items q ≡ None
begun_unmet ends count s is q = ap (λ z. number z q) is.numbers ∙ none_numbered count q

pub begun_few : (ends : List ℕ) (count : ℕ) (s : Search) → IsBegun ends count s → s.level + lacking s.numbers.items ≡ count
begun_few ends count s is =
    let a = is.level in
    let b : lacking s.numbers.items ≡ lacking (replicate count None) = ap lacking is.numbers in
    let c : lacking (replicate count None) ≡ count * 1 = sum_by-replicate lacks count None in
    omega arith

pub found_at : (A : Arch) (ends from : List ℕ) (r : ℕ) (s : Search) → IsOpen r s → IsSearch A ends s → ((q : ℕ) → Contains from q → number s.numbers.items q ≡ None) → Contains from r →
    IsSmall (length A.resources) (Some s.level) → IsFound A (Joins A from ends) (Some s.level)
found_at A ends from r s is_open h unmet f small = record {
  least = least_found A ends s.numbers.items s.level s.front.items s.at s.later.items h from unmet r (open_front r s is_open) f;
  small = small;
}

pub found_nowhere : (A : Arch) (ends from : List ℕ) (s : Search) → IsOver s → IsSearch A ends s → ((q : ℕ) → Contains from q → number s.numbers.items q ≡ None) →
    IsFound A (Joins A from ends) None
found_nowhere A ends from s (over, empty) h unmet = found_none A (Joins A from ends) (none_found A ends s.numbers.items s.level s.front.items s.at s.later.items h from unmet over empty)
