-- What loops over names and nets have found.
use Rattle.std.proofs.Common.{◌≡◌, ℕ, zero, suc, ◌+◌, ◌<◌, Bool, true, false, cond, ◌||◌, List, [], ◌∷◌, ◌++◌, length, map, take, drop, get_or, Option, Some, None, refl, ap, sym, ◌∙◌, subst, arith, append-nil}
use Rattle.std.specs.Prelude.{is_some, find}
use Rattle.std.specs.List.{flat_map, AllByRecursion}
use Rattle.std.specs.Option.{option_or}
use Rattle.std.proofs.lemmas.Bool.{cond-true, cond-false}
use Rattle.std.proofs.lemmas.Grind.{flat_map-append}
use Rattle.std.proofs.lemmas.List.{take_more, take-append-drop, map-append}
use Rattle.std.proofs.lemmas.List.Folds.{find-append}
use Rattle.std.proofs.Math.Seq.{drop-cons}
use Rattle.cg_netlist.specs.declared.parts.Net.{Net}
use Rattle.cg_netlist.specs.Graph.{names}
use Rattle.cg_netlist_reader.specs.Reading.{given, has, repeated}

-- ---- the first name that a test finds, item after item

split : {X : Type 0} (f : X → List (List ℕ)) (xs : List X) (i : ℕ) (d : X) → i < length xs → flat_map f xs ≡ flat_map f (take i xs) ++ (f (get_or xs i d) ++ flat_map f (drop (suc i) xs))
split f xs i d l =
    ap (flat_map f) (sym (take-append-drop i xs)) ∙ flat_map-append f (take i xs) (drop i xs)
    ∙ ap (λ ys. flat_map f (take i xs) ++ flat_map f ys) (drop-cons xs i d l)

pub found_in_item : {X : Type 0} (t : List ℕ → Bool) (f : X → List (List ℕ)) (xs : List X) (i : ℕ) (d : X) (n : List ℕ) → i < length xs
    → find t (flat_map f (take i xs)) ≡ None → find t (f (get_or xs i d)) ≡ Some n → find t (flat_map f xs) ≡ Some n
found_in_item t f xs i d n l before here =
    ap (find t) (split f xs i d l) ∙ find-append t (flat_map f (take i xs)) (f (get_or xs i d) ++ flat_map f (drop (suc i) xs))
    ∙ ap (λ o. option_or o (find t (f (get_or xs i d) ++ flat_map f (drop (suc i) xs)))) before
    ∙ find-append t (f (get_or xs i d)) (flat_map f (drop (suc i) xs))
    ∙ ap (λ o. option_or o (find t (flat_map f (drop (suc i) xs)))) here

pub none_in_more : {X : Type 0} (t : List ℕ → Bool) (f : X → List (List ℕ)) (xs : List X) (i : ℕ) (d : X) → i < length xs
    → find t (flat_map f (take i xs)) ≡ None → find t (f (get_or xs i d)) ≡ None → find t (flat_map f (take (i + 1) xs)) ≡ None
none_in_more t f xs i d l before here =
    ap (λ ys. find t (flat_map f ys)) (take_more xs i d l)
    ∙ ap (find t) (flat_map-append f (take i xs) (get_or xs i d ∷ []))
    ∙ find-append t (flat_map f (take i xs)) (f (get_or xs i d) ++ [])
    ∙ ap (λ o. option_or o (find t (f (get_or xs i d) ++ []))) before
    ∙ ap (find t) (append-nil (f (get_or xs i d))) ∙ here

-- two tests that agree find the same
pub find_same : (s t : List ℕ → Bool) (xs : List (List ℕ)) → ((x : List ℕ) → s x ≡ t x) → find s xs ≡ find t xs
find_same s t [] same = refl
find_same s t (x ∷ xs) same = ap (λ b. cond b (Some x) (find s xs)) (same x) ∙ ap (λ o. cond (t x) (Some x) o) (find_same s t xs same)

-- ---- names of nets, one after another

next_name : (nets : List Net) (i : ℕ) (d : Net) → i < length nets → names (drop i nets) ≡ (get_or nets i d).name ∷ names (drop (suc i) nets)
next_name nets i d l = ap names (drop-cons nets i d l)

pub more_names : (nets : List Net) (i : ℕ) (d : Net) → i < length nets → given ++ names (take (i + 1) nets) ≡ (given ++ names (take i nets)) ++ (get_or nets i d).name ∷ []
more_names nets i d l =
    ap (λ ns. given ++ names ns) (take_more nets i d l) ∙ ap (λ ns. given ++ ns) (map-append (λ (n : Net). n.name) (take i nets) (get_or nets i d ∷ []))

pub repeated_here : (nets : List Net) (i : ℕ) (d : Net) → i < length nets → repeated given (names nets) ≡ repeated (given ++ names (take i nets)) (names (drop i nets))
    → has (given ++ names (take i nets)) (get_or nets i d).name ≡ true → repeated given (names nets) ≡ Some (get_or nets i d).name
repeated_here nets i d l rest here =
    rest ∙ ap (repeated (given ++ names (take i nets))) (next_name nets i d l)
    ∙ cond-true (has (given ++ names (take i nets)) (get_or nets i d).name) (Some (get_or nets i d).name) (repeated ((given ++ names (take i nets)) ++ (get_or nets i d).name ∷ []) (names (drop (suc i) nets))) here

pub repeated_later : (nets : List Net) (i : ℕ) (d : Net) → i < length nets → repeated given (names nets) ≡ repeated (given ++ names (take i nets)) (names (drop i nets))
    → has (given ++ names (take i nets)) (get_or nets i d).name ≡ false → repeated given (names nets) ≡ repeated (given ++ names (take (i + 1) nets)) (names (drop (i + 1) nets))
repeated_later nets i d l rest here =
    let more : suc i ≡ i + 1 = omega arith in
    rest ∙ ap (repeated (given ++ names (take i nets))) (next_name nets i d l)
    ∙ cond-false (has (given ++ names (take i nets)) (get_or nets i d).name) (Some (get_or nets i d).name) (repeated ((given ++ names (take i nets)) ++ (get_or nets i d).name ∷ []) (names (drop (suc i) nets))) here
    ∙ ap (λ s. repeated s (names (drop (suc i) nets))) (sym (more_names nets i d l))
    ∙ ap (λ n. repeated (given ++ names (take (i + 1) nets)) (names (drop n nets))) more

-- ---- what a map knows

or_some : (o : Option ℕ) (b : Bool) (n : ℕ) → is_some (option_or o (cond b (Some n) None)) ≡ (is_some o || b)
or_some None true n = refl
or_some None false n = refl
or_some (Some x) b n = refl

pub knows_more : (o new : Option ℕ) (b : Bool) (n : ℕ) → new ≡ option_or o (cond b (Some n) None) → is_some new ≡ (is_some o || b)
knows_more o new b n e = ap is_some e ∙ or_some o b n

pub knows_two : (o one two : Option ℕ) (a b : Bool) (m n : ℕ) → o ≡ None → one ≡ option_or o (cond a (Some m) None) → two ≡ option_or one (cond b (Some n) None) → is_some two ≡ (a || (b || false))
knows_two o one two a b m n none first second =
    knows_more one two b n second ∙ ap (λ x. x || b) (knows_more o one a m first ∙ ap (λ z. is_some z || a) none) ∙ last a b
  where
    last : (x y : Bool) → (x || y) ≡ (x || (y || false))
    last true y = refl
    last false true = refl
    last false false = refl

pub none_of : (o : Option ℕ) → is_some o ≡ false → o ≡ None
none_of None e = refl
none_of (Some x) e = let bad : true ≡ false = e in absurd (cc)

-- ---- what holds of each item of a mapped list

pub mapped_at : {X Y : Type 0} (P : Y → Type 0) (f : X → Y) (xs : List X) (i : ℕ) (d : X) → AllByRecursion P (map f xs) → i < length xs → P (f (get_or xs i d))
mapped_at P f [] i d all l = absurd (omega arith)
mapped_at P f (x ∷ xs) zero d all l = all.0
mapped_at P f (x ∷ xs) (suc i) d all l = mapped_at P f xs i d all.1 (omega arith)

pub of_mapped : {X Y : Type 0} (P : Y → Type 0) (f : X → Y) (xs : List X) (i : ℕ) (x : X) → AllByRecursion P (map f xs) → x ≡ get_or xs i x → i < length xs → P (f x)
of_mapped {X} P f xs i x all is l = let Q : X → Type 0 = λ y. P (f y) in subst Q (sym is) (mapped_at P f xs i x all l)
