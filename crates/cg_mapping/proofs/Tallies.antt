-- What was seen of a list, one more item at a time, and what it tells of the one item that passes a test.
use Rattle.std.proofs.Common.{◌≡◌, ℕ, zero, suc, ◌+◌, ◌<◌, ◌≤◌, ◌==◌, List, [], ◌∷◌, length, map, take, get_or, set, subst, Option, Some, None, Bool, true, false, cond, refl, ap, sym, ◌∙◌, arith}
use Rattle.std.specs.Prelude.{slice_get, count_by}
use Rattle.std.specs.Option.{option_or}
use Rattle.std.specs.List.{position_from}
use Rattle.std.proofs.lemmas.List.Sums.{count_by_more_yes, count_by_more_no}
use Rattle.std.proofs.lemmas.Bool.{eqb-true, eq-eqb}
use Rattle.std.proofs.lemmas.List.{get_or-set_other}
use Rattle.std.proofs.lemmas.Grind.{get_or-set_at}
use Rattle.cg_model.specs.First.{first_such}
use Rattle.cg_model.proofs.Positions.{position_from-more}
use Rattle.cg_mapping.specs.Tally.{Seen, IsSeen, seen_after, picked}
use Rattle.cg_mapping.specs.declared.tally.Seen.TheVariants.{Never, Once, Again}
use Rattle.cg_mapping.specs.Complete.{only_such}
use Rattle.std.proofs.lemmas.List.Recursion.{is_count_by}
use Rattle.std.proofs.lemmas.Bool.Decides.{nat_tests}

-- ---- a count by recursion

abbrev pub count : {X : Type 0} → (X → Bool) → List X → ℕ
count t [] = 0
count t (x ∷ xs) = cond (t x) (1 + count t xs) (count t xs)

pub counted : {X : Type 0} (t : X → Bool) (xs : List X) → count t xs ≡ count_by t xs
counted t xs = is_count_by (count t) t refl (λ _ _. refl) xs

none_here : (b : Bool) (n i : ℕ) (o : Option ℕ) → cond b (1 + n) n ≡ 0 → (n ≡ 0 → o ≡ None) → cond b (Some i) o ≡ None
none_here true n i o e later = absurd (omega arith)
none_here false n i o e later = later e

-- a test that passes nowhere passes first nowhere
pub position_none : {X : Type 0} (t : X → Bool) (i : ℕ) (xs : List X) → count t xs ≡ 0 → position_from t i xs ≡ None
position_none t i [] e = refl
position_none t i (x ∷ xs) e = none_here (t x) (count t xs) i _ e (position_none t (i + 1) xs)

-- ---- one more item

seen_by : {X : Type 0} (t : X → Bool) (xs : List X) (i : ℕ) (d : X) (s : Seen) (b : Bool) → i < length xs → t (get_or xs i d) ≡ b → IsSeen t (take i xs) s → IsSeen t (take (i + 1) xs) (cond b (seen_after s i) s)
seen_by t xs i d Never true h is seen =
    let more = count_by_more_yes t xs i d h is in
    let none = position_none t 0 (take i xs) (counted t (take i xs) ∙ seen) in
    let here : 0 + i ≡ i = omega arith in (
      omega (arith, more, seen),
      position_from-more t 0 xs i d h ∙ ap (λ o. option_or o (cond (t (get_or xs i d)) (Some (0 + i)) None)) none ∙ ap (λ b. cond b (Some (0 + i)) None) is ∙ ap Some here,
    )
seen_by t xs i d (Once j) true h is seen = let more = count_by_more_yes t xs i d h is in let one = seen.0 in omega (arith, more, one)
seen_by t xs i d Again true h is seen = let more = count_by_more_yes t xs i d h is in omega (arith, more, seen)
seen_by t xs i d Never false h is seen = count_by_more_no t xs i d h is ∙ seen
seen_by t xs i d (Once j) false h is seen = (
  count_by_more_no t xs i d h is ∙ seen.0,
  position_from-more t 0 xs i d h ∙ ap (λ o. option_or o (cond (t (get_or xs i d)) (Some (0 + i)) None)) seen.1,
)
seen_by t xs i d Again false h is seen = let more = count_by_more_no t xs i d h is in omega (arith, more, seen)

-- what was seen of one more item
pub seen_more : {X : Type 0} (t : X → Bool) (xs : List X) (i : ℕ) (d : X) (s : Seen) → i < length xs → IsSeen t (take i xs) s → IsSeen t (take (i + 1) xs) (cond (t (get_or xs i d)) (seen_after s i) s)
seen_more t xs i d s h seen = seen_by t xs i d s (t (get_or xs i d)) h refl seen

-- ---- the one item

found_first : {X : Type 0} (b : Bool) (x : X) (xs : List X) (i : ℕ) (o : Option ℕ) (p : Option X) (k : ℕ) → (o ≡ Some k → (n : ℕ) × ((k ≡ i + 1 + n) × (p ≡ slice_get xs n))) → cond b (Some i) o ≡ Some k
    → (n : ℕ) × ((k ≡ i + n) × (cond b (Some x) p ≡ slice_get (x ∷ xs) n))
found_first true x xs i o p k later e = let same : i ≡ k = cc in (zero, (omega arith, refl))
found_first false x xs i o p k later e = let l = later e in (suc l.0, (let h = l.1.0 in omega (arith, h), l.1.1))

-- the first place at which a test passes is that of the first item
pub first_at : {X : Type 0} (t : X → Bool) (i : ℕ) (xs : List X) (k : ℕ) → position_from t i xs ≡ Some k → (n : ℕ) × ((k ≡ i + n) × (first_such t xs ≡ slice_get xs n))
first_at t i [] k e = let bad : None ≡ Some k = e in absurd (cc)
first_at t i (x ∷ xs) k e = found_first (t x) x xs i (position_from t (i + 1) xs) (first_such t xs) k (first_at t (i + 1) xs k) e

not_one : (n : ℕ) → 2 ≤ n → (n == 1) ≡ false
not_one n h = grind (arith, nat_tests)

-- the item that was seen just once is the only one
pub picked-only : {X : Type 0} (t : X → Bool) (xs : List X) (s : Seen) → IsSeen t xs s → picked s xs ≡ only_such t xs
picked-only t xs Never seen = ap (λ n. cond (n == 1) (first_such t xs) None) (sym seen)
picked-only t xs (Once i) seen =
    let first = first_at t 0 xs i seen.1 in
    let same : i ≡ first.0 = let h = first.1.0 in omega (arith, h) in
    ap (slice_get xs) same ∙ sym first.1.1 ∙ ap (λ n. cond (n == 1) (first_such t xs) None) (sym seen.0)
picked-only t xs Again seen = ap (λ b. cond b (first_such t xs) None) (sym (not_one (count_by t xs) seen))

-- ---- tests that agree

agree_count : {X Y : Type 0} (t : Y → Bool) (f : X → Y) (u : X → Bool) (xs : List X) → ((i : ℕ) (x : X) → slice_get xs i ≡ Some x → t (f x) ≡ u x) → count t (map f xs) ≡ count u xs
agree_count t f u [] h = refl
agree_count t f u (x ∷ xs) h =
    ap (λ b. cond b (1 + count t (map f xs)) (count t (map f xs))) (h 0 x refl) ∙ ap (λ n. cond (u x) (1 + n) n) (agree_count t f u xs (λ i y at. h (suc i) y at))

agree_position : {X Y : Type 0} (t : Y → Bool) (f : X → Y) (u : X → Bool) (k : ℕ) (xs : List X) → ((i : ℕ) (x : X) → slice_get xs i ≡ Some x → t (f x) ≡ u x) → position_from t k (map f xs) ≡ position_from u k xs
agree_position t f u k [] h = refl
agree_position t f u k (x ∷ xs) h =
    ap (λ b. cond b (Some k) (position_from t (k + 1) (map f xs))) (h 0 x refl) ∙ ap (cond (u x) (Some k)) (agree_position t f u (k + 1) xs (λ i y at. h (suc i) y at))

-- what was seen of the numbers of items was seen of the items
pub seen-map : {X Y : Type 0} (t : Y → Bool) (f : X → Y) (u : X → Bool) (xs : List X) (s : Seen) → ((i : ℕ) (x : X) → slice_get xs i ≡ Some x → t (f x) ≡ u x) → IsSeen t (map f xs) s → IsSeen u xs s
seen-map t f u xs Never h seen = sym (counted u xs) ∙ sym (agree_count t f u xs h) ∙ counted t (map f xs) ∙ seen
seen-map t f u xs (Once i) h seen =
    (sym (counted u xs) ∙ sym (agree_count t f u xs h) ∙ counted t (map f xs) ∙ seen.0, sym (agree_position t f u 0 xs h) ∙ seen.1)
seen-map t f u xs Again h seen =
    let same : count_by u xs ≡ count_by t (map f xs) = sym (counted u xs) ∙ sym (agree_count t f u xs h) ∙ counted t (map f xs) in
    omega (arith, same, seen)

-- ---- a table

at_other : (table : List Seen) (k key : ℕ) (v : Seen) (b : Bool) → (key == k) ≡ b → k < length table → get_or (set table key v) k Never ≡ cond b v (get_or table k Never)
at_other table k key v true is h = let same = eqb-true key k is in get_or-set_at table key k v Never (sym same) (omega arith)
at_other table k key v false is h = get_or-set_other table key k v Never (λ same. let bad : true ≡ false = sym (eq-eqb key k (sym same)) ∙ is in absurd (cc))

same_seen : (b : Bool) (table : List Seen) (k key i : ℕ) → (b ≡ true → key ≡ k) → cond b (seen_after (get_or table key Never) i) (get_or table k Never) ≡ cond b (seen_after (get_or table k Never) i) (get_or table k Never)
same_seen true table k key i h = ap (λ j. seen_after (get_or table j Never) i) (h refl)
same_seen false table k key i h = refl

-- a table that is right of the first i numbers is so of one more, which was seen
pub tally_more : (table : List Seen) (size : ℕ) (keys : List ℕ) (i key : ℕ) → length table ≡ size → i < length keys → get_or keys i 0 ≡ key
    → ((k : ℕ) → k < size → IsSeen (λ x. x == k) (take i keys) (get_or table k Never))
    → (k : ℕ) → k < size → IsSeen (λ x. x == k) (take (i + 1) keys) (get_or (set table key (seen_after (get_or table key Never) i)) k Never)
tally_more table size keys i key len h is seen k below =
    let more = seen_more (λ x. x == k) keys i 0 (get_or table k Never) h (seen k below) in
    let S : Seen → Type 0 = λ s. IsSeen (λ x. x == k) (take (i + 1) keys) s in
    let here = ap (λ x. cond (x == k) (seen_after (get_or table k Never) i) (get_or table k Never)) is in
    subst S (here ∙ sym (same_seen (key == k) table k key i (eqb-true key k)) ∙ sym (at_other table k key (seen_after (get_or table key Never) i) (key == k) refl (omega arith))) more
