-- The first items that pass tests, by number.
use Rattle.std.proofs.Common.{◌≡◌, ℕ, suc, ◌+◌, ◌<◌, ◌≤◌, Bool, true, false, cond, List, [], ◌∷◌, ◌||◌, length, map, take, drop, get_or, Option, Some, None, refl, ap, sym, ◌∙◌, subst, arith}
use Rattle.std.specs.Prelude.{String, find, is_some, slice_get, not}
use Rattle.std.specs.List.{list_any, position_from, position_or_len}
use Rattle.std.specs.Option.{option_or}
use Rattle.std.specs.declared.alloc.Global.{Global}
use Rattle.std.proofs.lemmas.List.{drop_more, get_or-map, length-map, take_all}
use Rattle.std.proofs.lemmas.List.Sums.{prefix_len-le-length}
use Rattle.std.proofs.lemmas.List.Folds.{find_at}
use Rattle.std.proofs.lemmas.Option.{slice_get_past, slice_get-get_or}
use Rattle.indexmap.specs.IndexMap.{IndexMap}
use Rattle.cg_model.specs.First.{first_from}
use Rattle.cg_model.proofs.Positions.{position_from-more, position_from-within}
use Rattle.cg_reading.specs.Numbers.{found_in}
use Rattle.cg_gates.specs.Numbers.{AreFirst}

-- ---- two ways to say a first place

abbrev pub or_all : Option ℕ → ℕ → ℕ
or_all None all = all
or_all (Some i) all = i

all_step : (b : Bool) (i n m : ℕ) (o : Option ℕ) → or_all o (i + 1 + n) ≡ i + 1 + m → or_all (cond b (Some i) o) (i + suc n) ≡ i + cond (not b) (1 + m) 0
all_step true i n m o e = omega arith
all_step false i n m o e =
    let here : i + suc n ≡ i + 1 + n = omega arith in
    let there : i + 1 + m ≡ i + (1 + m) = omega arith in
    ap (or_all o) here ∙ e ∙ there

from_or_all : {X : Type 0} (t : X → Bool) (i : ℕ) (xs : List X) → or_all (position_from t i xs) (i + length xs) ≡ i + position_or_len t xs
from_or_all t i [] = refl
from_or_all t i (x ∷ xs) = all_step (t x) i (length xs) (position_or_len t xs) (position_from t (i + 1) xs) (from_or_all t (i + 1) xs)

pub all_is : {X : Type 0} (t : X → Bool) (xs : List X) → or_all (position_from t 0 xs) (length xs) ≡ position_or_len t xs
all_is t xs =
    let same = from_or_all t 0 xs in
    let zero_length : 0 + length xs ≡ length xs = omega arith in
    ap (or_all (position_from t 0 xs)) (sym zero_length) ∙ same ∙ omega arith

pub some_place : {X : Type 0} (t : X → Bool) (xs : List X) (k : ℕ) → Some k ≡ position_from t 0 xs → k ≡ position_or_len t xs
some_place t xs k e = ap (λ o. or_all o (length xs)) e ∙ all_is t xs

pub no_place : {X : Type 0} (t : X → Bool) (xs : List X) → None ≡ position_from t 0 xs → length xs ≡ position_or_len t xs
no_place t xs e = ap (λ o. or_all o (length xs)) e ∙ all_is t xs

pub place_within : {X : Type 0} (t : X → Bool) (xs : List X) (k : ℕ) → Some k ≡ position_from t 0 xs → k < length xs
place_within t xs k e = let within = position_from-within t 0 xs k (sym e) in omega (arith, within)

pub found_at : {X : Type 0} (t : X → Bool) (xs : List X) (k : ℕ) (x : X) → Some k ≡ position_from t 0 xs → x ≡ get_or xs k x → Some x ≡ find t xs
found_at t xs k x e is =
    ap Some is ∙ sym (slice_get-get_or xs k x (place_within t xs k e)) ∙ ap (slice_get xs) (some_place t xs k e) ∙ sym (find_at t xs)

pub found_nowhere : {X : Type 0} (t : X → Bool) (xs : List X) → None ≡ position_from t 0 xs → None ≡ find t xs
found_nowhere t xs e = let past = no_place t xs e in sym (slice_get_past xs (position_or_len t xs) (omega (arith, past))) ∙ sym (find_at t xs)

-- ---- one item more

pub first_none : {S T : Type 0} (numbers : IndexMap (String Global) ℕ S) (test : List ℕ → T → Bool) (items : List T) → ((name : List ℕ) → found_in numbers name ≡ None) → AreFirst numbers test (take 0 items)
first_none numbers test items none = record { found = λ name. none name }

pub first_more : {S T : Type 0} (old new : IndexMap (String Global) ℕ S) (test : List ℕ → T → Bool) (items : List T) (i : ℕ) (x : T) → x ≡ get_or items i x → i < length items → AreFirst old test (take i items)
    → ((name : List ℕ) → found_in new name ≡ option_or (found_in old name) (cond (test name x) (Some i) None)) → AreFirst new test (take (i + 1) items)
first_more old new test items i x is l before added = record {
  found = λ name.
      let more = position_from-more (test name) 0 items i x l in
      let same : 0 + i ≡ i = omega arith in
      let here : test name x ≡ test name (get_or items i x) = ap (test name) is in
      added name
      ∙ ap (λ o. option_or o (cond (test name x) (Some i) None)) (before.found name)
      ∙ ap (λ b. option_or (position_from (test name) 0 (take i items)) (cond b (Some i) None)) here
      ∙ ap (λ n. option_or (position_from (test name) 0 (take i items)) (cond (test name (get_or items i x)) (Some n) None)) (sym same)
      ∙ sym more;
}

-- ---- the numbers of one list are those of an equal one

pub first_along : {S T : Type 0} (numbers : IndexMap (String Global) ℕ S) (test : List ℕ → T → Bool) (a b : List T) → a ≡ b → AreFirst numbers test a → AreFirst numbers test b
first_along {S} {T} numbers test a b e h = let P : List T → Type 0 = λ xs. AreFirst numbers test xs in subst P e h

-- ---- the first place from the first item on

pub first_here : {X : Type 0} (t : ℕ → X → Bool) (xs : List X) (i : ℕ) (x : X) → x ≡ get_or xs i x → i < length xs → first_from t i (drop i xs) ≡ first_from t 0 xs → t i x ≡ true → Some i ≡ first_from t 0 xs
first_here t xs i x is l before here =
    sym (ap (λ b. cond b (Some i) (first_from t (i + 1) (drop (i + 1) xs))) (ap (t i) (sym is) ∙ here)) ∙ sym (ap (first_from t i) (drop_more xs i x l)) ∙ before

pub first_next : {X : Type 0} (t : ℕ → X → Bool) (xs : List X) (i : ℕ) (x : X) → x ≡ get_or xs i x → i < length xs → first_from t i (drop i xs) ≡ first_from t 0 xs → t i x ≡ false
    → first_from t (i + 1) (drop (i + 1) xs) ≡ first_from t 0 xs
first_next t xs i x is l before here =
    sym (ap (λ b. cond b (Some i) (first_from t (i + 1) (drop (i + 1) xs))) (ap (t i) (sym is) ∙ here)) ∙ sym (ap (first_from t i) (drop_more xs i x l)) ∙ before

-- ---- whether a list has an item that passes

pub any_is : {X : Type 0} (t : X → Bool) (i : ℕ) (xs : List X) → is_some (position_from t i xs) ≡ list_any t xs
any_is t i [] = refl
any_is t i (x ∷ xs) = any_step (t x) i (position_from t (i + 1) xs) (list_any t xs) (any_is t (i + 1) xs)
  where
    any_step : (b : Bool) (n : ℕ) (o : Option ℕ) (c : Bool) → is_some o ≡ c → is_some (cond b (Some n) o) ≡ (b || c)
    any_step true n o c e = refl
    any_step false n o c e = e

-- ---- one item more of a list that a function is applied to

pub mapped_more : {S T U : Type 0} (old new : IndexMap (String Global) ℕ S) (f : T → U) (test : List ℕ → U → Bool) (items : List T) (i : ℕ) (x : T) → x ≡ get_or items i x → i < length items → AreFirst old test (take i (map f items))
    → ((name : List ℕ) → found_in new name ≡ option_or (found_in old name) (cond (test name (f x)) (Some i) None)) → AreFirst new test (take (i + 1) (map f items))
mapped_more old new f test items i x is l before added =
    let long = length-map items f in
    first_more old new test (map f items) i (f x) (ap f is ∙ sym (get_or-map f items i x (f x) l)) (omega (arith, long)) before added

pub all_mapped : {S T U : Type 0} (numbers : IndexMap (String Global) ℕ S) (f : T → U) (test : List ℕ → U → Bool) (items : List T) (i : ℕ) → length items ≤ i → AreFirst numbers test (take i (map f items)) → AreFirst numbers test (map f items)
all_mapped numbers f test items i all h =
    let long = length-map items f in
    first_along numbers test (take i (map f items)) (map f items) (take_all i (map f items) (omega (arith, long))) h

pub place_most : {X : Type 0} (t : X → Bool) (xs : List X) → position_or_len t xs ≤ length xs
place_most t xs = prefix_len-le-length (λ x. not (t x)) xs

pub mapped_found : {X Y : Type 0} (t : Y → Bool) (f : X → Y) (xs : List X) (k : ℕ) (x : X) → Some k ≡ position_from t 0 (map f xs) → x ≡ get_or xs k x → Some (f x) ≡ find t (map f xs)
mapped_found t f xs k x e is =
    let within = place_within t (map f xs) k e in
    let long = length-map xs f in
    found_at t (map f xs) k (f x) e (ap f is ∙ sym (get_or-map f xs k x (f x) (omega (arith, within, long))))
