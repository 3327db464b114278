-- Claims in lists, by resource and slot.
use Rattle.std.proofs.Common.{◌≡◌, ◌≢◌, ℕ, ◌%◌, ◌<◌, Bool, true, false, ◌||◌, ◌&&◌, List, [], ◌∷◌, ◌++◌, length, refl, sym, ap, ◌∙◌, subst, arith, ⊎_elim}
use Rattle.std.specs.Prelude.{◌⊎◌, not, replicate, slice_index_or, slice_set}
use Rattle.std.specs.List.{list_any}
use Rattle.std.proofs.lemmas.Bool.{cases_eq, cases_lt, eq-eqb, and_parts, or_cases, or_left, or_right}
use Rattle.std.proofs.Common.{eqb-true}
use Rattle.std.proofs.lemmas.List.{get_or-set_same, get_or-set_other, get_or-replicate, get_or_past, length-set, length-replicate}
use Rattle.std.proofs.lemmas.List.Folds.{list_any-append}
use Rattle.cg_model.specs.Mapping.{Position}
use Rattle.cg_check.specs.declared.stop.Stop.{Stop}
use Rattle.cg_check.specs.Claims.{position_of}
use Rattle.cg_search_respond.specs.Faults.{same_claim, meets, adds_claim}
use Rattle.cg_search_respond.specs.Kept.{list_of, HasClaims}

-- ---- tests on lists

any_more : {X : Type 0} (f g : X → Bool) → ((x : X) → f x ≡ true → g x ≡ true) → (xs : List X) → list_any f xs ≡ true → list_any g xs ≡ true
any_more f g more [] e = e
any_more f g more (x ∷ xs) e =
    ⊎_elim (λ h. or_left (g x) (list_any g xs) (more x h)) (λ h. or_right (g x) (list_any g xs) (any_more f g more xs h)) (or_cases (f x) (list_any f xs) e)

or_false : (a b : Bool) → b ≡ false → (a || b) ≡ a
or_false true b e = refl
or_false false b e = e

or_same : (a b : Bool) → (b ≡ true → a ≡ true) → (a || b) ≡ a
or_same true b h = refl
or_same false true h = sym (h refl)
or_same false false h = refl

and_false : (a : Bool) → (a && false) ≡ false
and_false true = refl
and_false false = refl

and_right : (a : Bool) → (a && true) ≡ a
and_right true = refl
and_right false = refl

and_true : (a b : Bool) → a ≡ true → b ≡ true → (a && b) ≡ true
and_true a b ea eb = rw (ea, eb) refl

-- one more item in a list
any_push : {X : Type 0} (f : X → Bool) (xs : List X) (x : X) → list_any f (xs ++ x ∷ []) ≡ (list_any f xs || f x)
any_push f xs x = list_any-append f xs (x ∷ []) ∙ ap (λ z. list_any f xs || z) (or_false (f x) false refl)

-- ---- claims

-- a position like one that is claimed is claimed
same_through : (p q r : Position) → same_claim p q ≡ true → same_claim q r ≡ true → same_claim p r ≡ true
same_through p q r e f =
    let (a, bc) = and_parts _ _ e in
    let (b, c) = and_parts _ _ bc in
    let (x, yz) = and_parts _ _ f in
    let (y, z) = and_parts _ _ yz in
    and_true _ _ (eq-eqb p.resource r.resource (eqb-true _ _ a ∙ eqb-true _ _ x))
    (and_true _ _ (eq-eqb p.source r.source (eqb-true _ _ b ∙ eqb-true _ _ y)) (eq-eqb p.time r.time (eqb-true _ _ c ∙ eqb-true _ _ z)))

meets_through : (ii : ℕ) (p q r : Position) → meets ii p q ≡ true → same_claim q r ≡ true → meets ii p r ≡ true
meets_through ii p q r e f =
    let (a, b) = and_parts _ _ e in
    let (x, yz) = and_parts _ _ f in
    let (y, z) = and_parts _ _ yz in
    and_true _ _ (eq-eqb p.resource r.resource (eqb-true _ _ a ∙ eqb-true _ _ x))
    (eq-eqb (p.time % ii) (r.time % ii) (eqb-true _ _ b ∙ ap (λ t. t % ii) (eqb-true _ _ z)))

module _ (ii : ℕ) (before : List Position) (old : List (List Stop)) (has : HasClaims ii before old) (s : Stop) where
  abbrev q : Position
  q = position_of s

  abbrev at : ℕ
  at = list_of (length old) ii s.resource (s.time % ii)

  -- the list of a position that is on that resource in that slot
  same_list : (p : Position) → p.resource ≡ s.resource → p.time % ii ≡ s.time % ii → list_of (length old) ii p.resource (p.time % ii) ≡ at
  same_list p e f = ap (λ r. list_of (length old) ii r (p.time % ii)) e ∙ ap (λ t. list_of (length old) ii s.resource t) f

  near_same : (p : Position) → same_claim p q ≡ true → list_of (length old) ii p.resource (p.time % ii) ≡ at
  near_same p e =
      let (a, bc) = and_parts _ _ e in
      let (b, c) = and_parts _ _ bc in
      same_list p (eqb-true _ _ a) (ap (λ t. t % ii) (eqb-true _ _ c))

  near_met : (p : Position) → meets ii p q ≡ true → list_of (length old) ii p.resource (p.time % ii) ≡ at
  near_met p e = let (a, b) = and_parts _ _ e in same_list p (eqb-true _ _ a) (eqb-true _ _ b)

  -- what a new claim adds
  adds_it : (held : List Stop) (claimed met : Bool) → held ≡ slice_index_or old at [] →
      claimed ≡ list_any (λ c. same_claim q (position_of c)) held → met ≡ list_any (λ c. meets ii q (position_of c)) held → (met && not claimed) ≡ adds_claim ii before q
  adds_it held claimed met is same more =
      ap (λ (z : Bool). z && not claimed) (more ∙ ap (list_any (λ c. meets ii q (position_of c))) is ∙ has.met q)
      ∙ ap (λ (z : Bool). list_any (meets ii q) before && not z) (same ∙ ap (list_any (λ c. same_claim q (position_of c))) is ∙ has.same q)

  -- a claim that is kept already
  kept_already : (held : List Stop) → held ≡ slice_index_or old at [] → list_any (λ c. same_claim q (position_of c)) held ≡ true → HasClaims ii (before ++ q ∷ []) old
  kept_already held is e =
      let known : list_any (same_claim q) before ≡ true = sym (has.same q) ∙ ap (list_any (λ c. same_claim q (position_of c))) (sym is) ∙ e in
      record {
        some = has.some;
        same = λ p. has.same p ∙ sym (any_push (same_claim p) before q ∙ or_same _ _ (λ h. any_more (same_claim q) (same_claim p) (λ r k. same_through p q r h k) before known));
        met = λ p. has.met p ∙ sym (any_push (meets ii p) before q ∙ or_same _ _ (λ h. any_more (same_claim q) (meets ii p) (λ r k. meets_through ii p q r h k) before known));
      }

  -- a new one
  module _ (new : List (List Stop)) (within : at < length old) (is : new ≡ slice_set old at (slice_index_or old at [] ++ s ∷ [])) where
    long : length new ≡ length old
    long = ap length is ∙ length-set old at (slice_index_or old at [] ++ s ∷ [])

    -- of one test, where it passes for that claim alone in its list
    one_more : (test : Position → Bool) (i : ℕ) → (test q ≡ true → i ≡ at) → list_any (λ c. test (position_of c)) (slice_index_or old i []) ≡ list_any test before →
        list_any (λ c. test (position_of c)) (slice_index_or new i []) ≡ list_any test (before ++ q ∷ [])
    one_more test i near so_far =
        ⊎_elim
        (λ (e : i ≡ at).
        let here : slice_index_or new i [] ≡ slice_index_or old i [] ++ s ∷ [] =
        ap (λ (z : List (List Stop)). slice_index_or z i []) is ∙ subst (λ z. slice_index_or (slice_set old at (slice_index_or old at [] ++ s ∷ [])) z [] ≡ slice_index_or old z [] ++ s ∷ []) (sym e) (get_or-set_same old at (slice_index_or old at [] ++ s ∷ []) [] within) in
        ap (list_any (λ c. test (position_of c))) here ∙ any_push (λ c. test (position_of c)) (slice_index_or old i []) s ∙ ap (λ (z : Bool). z || test q) so_far ∙ sym (any_push test before q))
        (λ (other : i ≡ at → ⊥).
        let apart : i ≢ at = other in
        let there : slice_index_or new i [] ≡ slice_index_or old i [] = ap (λ (z : List (List Stop)). slice_index_or z i []) is ∙ get_or-set_other old at i (slice_index_or old at [] ++ s ∷ []) [] apart in
        ap (list_any (λ c. test (position_of c))) there ∙ so_far ∙ sym (any_push test before q ∙ or_same (list_any test before) (test q) (λ h. absurd (other (near h)))))
        (cases_eq i at)

    kept_next : HasClaims ii (before ++ q ∷ []) new
    kept_next =
        record {
          some = (let l = long in let some = has.some in omega arith);
          same = λ p. subst (λ n. list_any (λ c. same_claim p (position_of c)) (slice_index_or new (list_of n ii p.resource (p.time % ii)) []) ≡ list_any (same_claim p) (before ++ q ∷ [])) (sym long) (one_more (same_claim p) (list_of (length old) ii p.resource (p.time % ii)) (near_same p) (has.same p));
          met = λ p. subst (λ n. list_any (λ c. meets ii p (position_of c)) (slice_index_or new (list_of n ii p.resource (p.time % ii)) []) ≡ list_any (meets ii p) (before ++ q ∷ [])) (sym long) (one_more (meets ii p) (list_of (length old) ii p.resource (p.time % ii)) (near_met p) (has.met p));
        }

-- the same, by the list that was read
module _ (ii : ℕ) (before : List Position) (old : List (List Stop)) (has : HasClaims ii before old) (s : Stop) (k : ℕ) (e : k ≡ list_of (length old) ii s.resource (s.time % ii)) (held : List Stop) (is : held ≡ slice_index_or old k []) where
  there : held ≡ slice_index_or old (list_of (length old) ii s.resource (s.time % ii)) []
  there = is ∙ ap (λ i. slice_index_or old i []) e

  pub adds_none : (claimed : Bool) → claimed ≡ list_any (λ c. same_claim (position_of s) (position_of c)) held → claimed ≡ true → false ≡ adds_claim ii before (position_of s)
  adds_none claimed same passed =
      let met = list_any (λ c. meets ii (position_of s) (position_of c)) held in
      sym (ap (λ (z : Bool). met && not z) passed ∙ and_false met) ∙ adds_it ii before old has s held claimed met there same refl

  pub adds_met : (claimed met : Bool) → claimed ≡ list_any (λ c. same_claim (position_of s) (position_of c)) held → claimed ≡ false → met ≡ list_any (λ c. meets ii (position_of s) (position_of c)) held → met ≡ adds_claim ii before (position_of s)
  adds_met claimed met same failed more =
      sym (ap (λ (z : Bool). met && not z) failed ∙ and_right met) ∙ adds_it ii before old has s held claimed met there same more

  pub stays_kept : (claimed : Bool) → claimed ≡ list_any (λ c. same_claim (position_of s) (position_of c)) held → claimed ≡ true → HasClaims ii (before ++ position_of s ∷ []) old
  stays_kept claimed same passed = kept_already ii before old has s held there (sym same ∙ passed)

  pub comes_kept : (new : List (List Stop)) → k < length old → new ≡ slice_set old k (slice_index_or old k [] ++ s ∷ []) → HasClaims ii (before ++ position_of s ∷ []) new
  comes_kept new within set =
      kept_next ii before old has s new (subst (λ i. i < length old) e within) (set ∙ ap (λ i. slice_set old i (slice_index_or old i [] ++ s ∷ [])) e)

-- before all positions the lists are empty
empty_at : (count i : ℕ) (none : List Stop) → slice_index_or (replicate count none) i none ≡ none
empty_at count i none = ⊎_elim (λ l. get_or-replicate count i none none l) (λ l. get_or_past (replicate count none) i none (omega (arith, length-replicate {A = List Stop} count none))) (cases_lt i count)

pub none_kept : (ii count : ℕ) (lists : List (List Stop)) → 0 < count → lists ≡ replicate count [] → HasClaims ii [] lists
none_kept ii count lists some is =
    record {
      some = (let l = ap length is ∙ length-replicate {A = List Stop} count [] in omega arith);
      same = λ p. ap (list_any (λ c. same_claim p (position_of c))) (empty (list_of (length lists) ii p.resource (p.time % ii)));
      met = λ p. ap (list_any (λ c. meets ii p (position_of c))) (empty (list_of (length lists) ii p.resource (p.time % ii)));
    }
  where
    empty : (i : ℕ) → slice_index_or lists i [] ≡ []
    empty i = ap (λ (z : List (List Stop)). slice_index_or z i []) is ∙ empty_at count i []
