-- Values are found by equality, and a new value goes last.
use Rattle.std.proofs.Common.{◌≡◌, ◌≢◌, ◌⊎◌, inl, inr, ℕ, ◌<◌, ◌≤◌, Bool, true, false, cond, eqb-true, List, [], ◌∷◌, ◌++◌, length, Some, None, Option, MatchOption, is_some, OnOk, OnErr, Result, Ok, Err, sym, ap, ◌∙◌, subst, arith, refl, rules, true≢false, length-append, ⊎_elim}
use Rattle.std.specs.List.{list_any, position}
use Rattle.std.specs.Prelude.{nat_eq, slice_get}
use Rattle.std.specs.Cmp.Rules.{hashing}
use Rattle.std.proofs.lemmas.Bool.{cases_Bool, cases_lt}
use Rattle.std.proofs.lemmas.List.{get_or_append_left, get_or_push}
use Rattle.std.proofs.lemmas.List.Folds.{list_any_at}
use Rattle.std.proofs.lemmas.List.Quantifiers.{position-Some}
use Rattle.std.proofs.lemmas.Option.{get_or_from_slice_get}
use Rattle.indexmap.specs.IndexSet.{IndexSet, IsUnchanged, Updates, contains, insert_key}
use Rattle.cg_c_values.specs.Standing.{AllStand, AreTruths, GivesTruth, IsTruth}
use Rattle.cg_c_values.specs.Values.{Value, Const, Keeps, Inserts, IsWordOf, MayStand, value_at}
use Rattle.cg_c_values.specs.contracts.value.ValuePartialEq.TheImpl as impl
use Rattle.cg_c_values.specs.contracts.value.ValueEq.TheImpl.Laws as laws
use Rattle.cg_c_values.proofs.Known.{fits_kept}

-- ---- equality

pub same_value : (a b : Value) → impl.eq-value.it a b ≡ true → a ≡ b
same_value = search (hashing, rules)

itself : (a : Value) → impl.eq-value.it a a ≡ true
itself a = laws.laws-law.refl a

-- ---- what is found

pub found : (s : List Value) (value : Value) (r : Option ℕ) → r ≡ position (impl.eq-value.it value) s → is_some r ≡ list_any (impl.eq-value.it value) s
    → MatchOption r ((v : ℕ) → v < length s → value_at s v ≢ value) (λ v. (v < length s) × (value_at s v ≡ value))
found s value None e any = λ v l same.
    true≢false (sym (list_any_at (impl.eq-value.it value) s v (Const 0) l (ap (impl.eq-value.it value) same ∙ itself value)) ∙ sym any)
found s value (Some v) e any =
    let p = position-Some (impl.eq-value.it value) s v (Const 0) (sym e) in
    (p.0, sym (same_value value _ p.1))

-- ---- what is added

-- the value at the place that an insertion tells
pub stored : (s : List Value) (v : ℕ) (value : Value) → ((k : Value) × (slice_get s v ≡ Some k) × (impl.eq-value.it value k ≡ true)) → value_at s v ≡ value
stored s v value h = get_or_from_slice_get s v h.0 (Const 0) h.1 ∙ sym (same_value value h.0 h.2)

-- what a list is after a value was inserted, or wasn't
abbrev pub Inserted : List Value → List Value → Value → Type 0
Inserted old new value = (new ≡ old) ⊎ (new ≡ old ++ value ∷ [])

pub inserted : {A B : Type 0} (old new : List Value) (value : Value) (r : Result A B) → OnOk r (new ≡ insert_key impl.eq-value.it old value) → OnErr r (new ≡ old) → Inserted old new value
inserted old new value (Ok x) ok err = by (list_any (impl.eq-value.it value) old) ok
  where
    by : (t : Bool) → new ≡ cond t old (old ++ value ∷ []) → (new ≡ old) ⊎ (new ≡ old ++ value ∷ [])
    by true e = inl e
    by false e = inr e
inserted old new value (Err e) ok err = inl err

-- a value that was added stands at the place that an insertion tells
pub inserted_place : (old new : List Value) (value : Value) (v : ℕ) → new ≡ insert_key impl.eq-value.it old value → v < length new → value_at new v ≡ value → (u : ℕ) → length old ≤ u → u < length new → u ≡ v
inserted_place old new value v ok within at u from l = by (list_any (impl.eq-value.it value) old) refl ok
  where
    by : (t : Bool) → list_any (impl.eq-value.it value) old ≡ t → new ≡ cond t old (old ++ value ∷ []) → u ≡ v
    by true any e = absurd (omega (arith, from, subst (λ (z : List Value). u < length z) e l))
    by false any e =
        let long = length-append old (value ∷ []) in
        let u_below : u < length (old ++ value ∷ []) = subst (λ (z : List Value). u < length z) e l in
        let v_below : v < length (old ++ value ∷ []) = subst (λ (z : List Value). v < length z) e within in
        ⊎_elim
        (λ (h : v < length old).
        let same : value_at old v ≡ value = sym (get_or_append_left old (value ∷ []) (Const 0) v h) ∙ subst (λ (z : List Value). value_at z v ≡ value) e at in
        absurd (true≢false (sym (list_any_at (impl.eq-value.it value) old v (Const 0) h (ap (impl.eq-value.it value) same ∙ itself value)) ∙ any)))
        (λ (h : length old ≤ v). omega (arith, long, u_below, v_below, from, h))
        (cases_lt v (length old))

pub still_stand : (old new : List Value) (value : Value) → Inserted old new value → AllStand old → MayStand (length old) value → AllStand new
still_stand old new value e all may =
    ⊎_elim (λ same. subst AllStand (sym same) all) (λ pushed. subst AllStand (sym pushed) more) e
  where
    more : AllStand (old ++ value ∷ [])
    more v l =
        ⊎_elim
        (λ (h : v < length old). subst (MayStand v) (sym (get_or_append_left old (value ∷ []) (Const 0) v h)) (all v h))
        (λ (h : length old ≤ v).
        let long = length-append old (value ∷ []) in
        let last : length old ≡ v = omega arith in
        subst (MayStand v) (sym (get_or_push old value (Const 0) v last)) (subst (λ n. MayStand n value) last may))
        (cases_lt v (length old))

pub extends_insert : (old new : List Value) (value : Value) → Inserted old new value → Inserts old new value
extends_insert old new value e =
    ⊎_elim (λ same. subst (λ z. Inserts old z value) (sym same) none) (λ pushed. subst (λ z. Inserts old z value) (sym pushed) more) e
  where
    none : Inserts old old value
    none = record { longer = omega arith; kept = λ v l. refl; one = λ v h l. absurd (omega (arith, h, l)) }

    more : Inserts old (old ++ value ∷ []) value
    more =
        record {
          longer = let long = length-append old (value ∷ []) in omega arith;
          kept = λ v l. get_or_append_left old (value ∷ []) (Const 0) v l;
          one = λ v h l. let long = length-append old (value ∷ []) in get_or_push old value (Const 0) v (omega arith);
        }

-- ---- truths

pub truth_after : (old new : List Value) (v : ℕ) → Keeps old new → IsTruth old v → IsTruth new v
truth_after old new v h t =
    let longer = h.longer in
    let within = t.within in
    record { within = omega arith; is = λ x E f. t.is x E (fits_kept old new x E h f) }

pub truths_after : (old new : List Value) (test : ℕ → Bool) → Keeps old new → AreTruths old test → AreTruths new test
truths_after old new test h all v e = truth_after old new v h (all v e)

-- the new value, where its operands give a truth
pub new_truth : (old new : List Value) (v : ℕ) (value : Value) → Keeps old new → v < length new → value_at new v ≡ value → GivesTruth old value → IsTruth new v
new_truth old new v value h l e gives =
    record { within = l; is = λ x E f. gives x E (E v) (fits_kept old new x E h f) (subst (λ (z : Value). IsWordOf x E z (E v)) e (f.is v l)) }

pub one_more_truth : {S A B : Type 0} (values : List Value) (old new : IndexSet ℕ S) (v : ℕ) (r : Result A B) → OnOk r (Updates nat_eq old new v true) → OnErr r (IsUnchanged old new)
    → IsTruth values v → AreTruths values (contains nat_eq old) → AreTruths values (contains nat_eq new)
one_more_truth values old new v (Err e) ok err t all q h = all q (sym (ap (λ ks. list_any (nat_eq q) ks) err) ∙ h)
one_more_truth values old new v (Ok a) ok err t all q h =
    ⊎_elim
    (λ (e : nat_eq v q ≡ true). subst (IsTruth values) (eqb-true v q e) t)
    (λ (e : nat_eq v q ≡ false). all q (sym (ok.2 q e) ∙ h))
    (cases_Bool (nat_eq v q))
