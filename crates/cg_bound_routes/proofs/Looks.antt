-- A search over lists alone: the least number of registers on a way between resources, or that there is no way.
use Rattle.std.proofs.Common.{◌≡◌, ℕ, zero, suc, ◌+◌, ◌-◌, ◌*◌, ◌<◌, ◌≤◌, ◌⊎◌, inl, inr, List, [], ◌∷◌, ◌++◌, length, set, refl, sym, ◌∙◌, subst, arith, ⊎_elim, Contains}
use Rattle.std.specs.Prelude.{Option, Some, None, slice_index, replicate}
use Rattle.std.proofs.lemmas.Bool.{cases_eq, cases_lt}
use Rattle.std.proofs.lemmas.List.{get_or-set_other}
use Rattle.std.proofs.lemmas.List.Folds.{sum_by-replicate}
use Rattle.cg_model.specs.Array.{Arch, IsArch, resource}
use Rattle.cg_model.proofs.Lookups.{Contains-nil}
use Rattle.cg_bound_routes.specs.Search.{number, lacks, lacking, HasNumber, IsUnderWay, AreBelow, IsNext, Joins, IsFound}
use Rattle.cg_bound_routes.proofs.Marks.{from_place}
use Rattle.cg_bound_routes.proofs.Steps.{begins, none_numbered, skips, rises}
use Rattle.cg_bound_routes.proofs.Settled.{delay_cases, settled_front, settled_later, numbered}
use Rattle.cg_bound_routes.proofs.Found.{least_found, none_found}
use Rattle.cg_bound_routes.proofs.Least.{found_none}

-- a number is in a list or not
contains_or_not : (xs : List ℕ) (x : ℕ) → Contains xs x ⊎ (Contains xs x → ⊥)
contains_or_not [] x = inr (λ c. Contains-nil x c)
contains_or_not (y ∷ ys) x =
    ⊎_elim {C = Contains (y ∷ ys) x ⊎ (Contains (y ∷ ys) x → ⊥)} (λ e. inl (zero, omega arith, sym e))
    (λ ne. ⊎_elim {C = Contains (y ∷ ys) x ⊎ (Contains (y ∷ ys) x → ⊥)} (λ (k, l, e). inl (suc k, omega arith, e))
    (λ none. inr (λ c. ⊎_elim {C = ⊥} (λ h. none h) (λ e. ne (sym e)) (in_tail y ys x c)))
    (contains_or_not ys x))
    (cases_eq x y)
  where
    in_tail : (y : ℕ) (ys : List ℕ) (x : ℕ) → Contains (y ∷ ys) x → Contains ys x ⊎ (y ≡ x)
    in_tail y ys x (zero, l, e) = inr e
    in_tail y ys x (suc k, l, e) = inl (k, omega arith, e)

number_or_none : (numbers : List (Option ℕ)) (r : ℕ) (o : Option ℕ) → number numbers r ≡ o → HasNumber numbers r ⊎ (number numbers r ≡ None)
number_or_none numbers r None e = inr e
number_or_none numbers r (Some m) e = inl (m, e)

-- the first place from `at` on of a resource without a number
next_from : (numbers : List (Option ℕ)) (front : List ℕ) (fuel at : ℕ) → at + fuel ≡ length front → (next : ℕ) × IsNext numbers front at next
next_from numbers front zero at e =
    (at, record { from = omega arith; within = omega arith; passed = λ i low high. absurd (omega arith); here = λ l. absurd (omega arith) })
next_from numbers front (suc fuel) at e =
    ⊎_elim {C = (next : ℕ) × IsNext numbers front at next}
    (λ has. let (next, is) = next_from numbers front fuel (at + 1) (omega arith) in (
      next,
      record {
        from = let l = is.from in omega arith;
        within = is.within;
        passed = λ i low high.
            ⊎_elim {C = HasNumber numbers (slice_index front i)} (λ same. subst (λ z. HasNumber numbers (slice_index front z)) (sym same) has) (λ ne. is.passed i (omega arith) high) (cases_eq i at);
        here = is.here;
      },
    ))
    (λ none. (at, record { from = omega arith; within = omega arith; passed = λ i low high. absurd (omega arith); here = λ l. none }))
    (number_or_none numbers (slice_index front at) (number numbers (slice_index front at)) refl)

next_place : (numbers : List (Option ℕ)) (front : List ℕ) (at : ℕ) → at ≤ length front → (next : ℕ) × IsNext numbers front at next
next_place numbers front at l = let (k, e) = rest (length front) l in next_from numbers front k at e
  where
    rest : (n : ℕ) → at ≤ n → (k : ℕ) × (at + k ≡ n)
    rest n h = (n - at, omega arith)

module _ (A : Arch) (valid : IsArch A) (ends : List ℕ) where
  module _ (from : List ℕ) where
    -- the least number, or that there is none
    abbrev Answer : Type 0
    Answer = (hops : Option ℕ) × IsFound A (Joins A from ends) hops

    abbrev Unmet : List (Option ℕ) → Type 0
    Unmet numbers = (q : ℕ) → Contains from q → number numbers q ≡ None

    -- each search under way in which fewer than `most` resources lack a number has an answer
    abbrev IsAnswered : ℕ → Type 0
    IsAnswered most = (numbers : List (Option ℕ)) (level : ℕ) (front : List ℕ) (at : ℕ) (later : List ℕ) → IsUnderWay A ends numbers level front at later → Unmet numbers →
        level + lacking numbers ≤ length A.resources → lacking numbers < most → Answer

    module _ (most : ℕ) (on : IsAnswered most) where
      -- at a resource of the front without a number
      at_open : (numbers : List (Option ℕ)) (level : ℕ) (front : List ℕ) (at : ℕ) (later : List ℕ) → IsUnderWay A ends numbers level front at later → Unmet numbers →
          level + lacking numbers ≤ length A.resources + 1 → lacking numbers < most + 1 → (r : ℕ) → number numbers r ≡ None → Contains front r → Contains from r ⊎ (Contains from r → ⊥) → Answer
      at_open numbers level front at later h unmet few less r none here (inl is) = (
        Some level,
        record {
          least = least_found A ends numbers level front at later h from unmet r here is;
          small = λ n e. let one = numbered A valid ends numbers level front at later h r none here in let same : level ≡ n = cc in omega arith;
        },
      )
      at_open numbers level front at later h unmet few less r none here (inr not) =
          let one = numbered A valid ends numbers level front at later h r none here in
          let still : Unmet (set numbers r (Some level)) =
          λ q c. ⊎_elim {C = number (set numbers r (Some level)) q ≡ None} (λ e. absurd (not (subst (Contains from) e c))) (λ ne. get_or-set_other numbers r q (Some level) None ne ∙ unmet q c) (cases_eq q r) in
          ⊎_elim {C = Answer}
          (λ z. on (set numbers r (Some level)) level (front ++ (resource A r).drivers) at later (settled_front A valid ends numbers level front at later h r none here z) still (omega arith) (omega arith))
          (λ z. on (set numbers r (Some level)) level front at (later ++ (resource A r).drivers) (settled_later A valid ends numbers level front at later h r none here z) still (omega arith) (omega arith))
          (delay_cases (resource A r).kind)

      at_place : (numbers : List (Option ℕ)) (level : ℕ) (front : List ℕ) (at : ℕ) (later : List ℕ) → IsUnderWay A ends numbers level front at later → Unmet numbers →
          level + lacking numbers ≤ length A.resources + 1 → lacking numbers < most + 1 → at < length front → number numbers (slice_index front at) ≡ None → Answer
      at_place numbers level front at later h unmet few less l none =
          at_open numbers level front at later h unmet few less (slice_index front at) none (from_place front at (slice_index front at) l refl) (contains_or_not from (slice_index front at))

      one_more : IsAnswered (most + 1)
      one_more numbers level front at later h unmet few less =
          let (next, is) = next_place numbers front at h.reached in
          let h' = skips A ends numbers level front at later h next is in
          ⊎_elim {C = Answer} (λ l. at_place numbers level front next later h' unmet (omega arith) less l (is.here l))
          (λ past.
          let up = rises A ends numbers level front next later h' (let w = is.within in omega arith) in
          let (next', is') = next_place numbers later 0 (omega arith) in
          let up' = skips A ends numbers (level + 1) later 0 [] up next' is' in
          ⊎_elim {C = Answer} (λ l. at_place numbers (level + 1) later next' [] up' unmet (omega arith) less l (is'.here l))
          (λ past'. (
            None,
            found_none A (Joins A from ends) (none_found A ends numbers (level + 1) later next' [] up' from unmet (let w = is'.within in omega arith) refl),
          ))
          (cases_lt next' (length later)))
          (cases_lt next (length front))

    goes_on : (most : ℕ) → IsAnswered most
    goes_on zero numbers level front at later h unmet few less = absurd (omega arith)
    goes_on (suc most) numbers level front at later h unmet few less = one_more most (goes_on most) numbers level front at later h unmet few (omega arith)

    pub looked : AreBelow (length A.resources) ends → Answer
    looked below =
        let count = length A.resources in
        let all : lacking (replicate count None) ≡ count * 1 = sum_by-replicate lacks count None in
        goes_on (count + 1) (replicate count None) 0 ends 0 [] (begins A ends below) (λ q c. none_numbered count q) (omega arith) (omega arith)
