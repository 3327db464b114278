-- Elements of lists, and what holds of each.
use Rattle.std.proofs.Common.{◌≡◌, ℕ, zero, suc, ◌+◌, ◌<◌, ◌||◌, ◌^◌, List, [], ◌∷◌, map, take, Option, Some, None, Result, Ok, Err, Bool, false, cond, refl, ap, ◌∙◌, arith}
use Rattle.std.specs.Prelude.{slice_get, IfOk}
use Rattle.std.specs.Option.{option_map, option_and_then}
use Rattle.std.specs.List.{list_any}
use Rattle.std.proofs.lemmas.Bool.{lt-ltb}
use Rattle.serde_json.specs.Data.{Data}
use Rattle.serde_json.specs.View.{items_of}
use Rattle.cg_reading.specs.Items.{all_of, all_or_first, and_rest}
use Rattle.cg_json.specs.Members.{listed, word_in, word_data}

pub all_of-map : {X T : Type 0} (read : Data → Option T) (f : X → Data) (g : X → T) (xs : List X) → ((i : ℕ) (x : X) → slice_get xs i ≡ Some x → read (f x) ≡ Some (g x)) → all_of read (listed (items_of (map f xs))) ≡ Some (map g xs)
all_of-map read f g [] h = refl
all_of-map read f g (x ∷ xs) h =
    ap (option_and_then (λ y. option_map (λ ys. y ∷ ys) (all_of read (listed (items_of (map f xs)))))) (h 0 x refl)
    ∙ ap (option_map (λ ys. g x ∷ ys)) (all_of-map read f g xs (λ i y at. h (suc i) y at))

pub all_or_first-map : {X T : Type 0} (read : Data → Option T) (f : X → Data) (g : X → T) (k : ℕ) (xs : List X) → ((i : ℕ) (x : X) → slice_get xs i ≡ Some x → read (f x) ≡ Some (g x)) → all_or_first read k (listed (items_of (map f xs))) ≡ Ok (map g xs)
all_or_first-map read f g k [] h = refl
all_or_first-map read f g k (x ∷ xs) h =
    ap (λ o. and_rest k o (all_or_first read (k + 1) (listed (items_of (map f xs))))) (h 0 x refl)
    ∙ ap (and_rest k (Some (g x))) (all_or_first-map read f g (k + 1) xs (λ i y at. h (suc i) y at))

pub map-same : {X : Type 0} (f : X → X) (xs : List X) → ((i : ℕ) (x : X) → slice_get xs i ≡ Some x → f x ≡ x) → map f xs ≡ xs
map-same f [] h = refl
map-same f (x ∷ xs) h = ap (λ y. y ∷ map f xs) (h 0 x refl) ∙ ap (λ ys. x ∷ ys) (map-same f xs (λ i y at. h (suc i) y at))

pub map-back : {X Y : Type 0} (f : X → Y) (g : Y → X) (xs : List X) → ((i : ℕ) (x : X) → slice_get xs i ≡ Some x → g (f x) ≡ x) → map g (map f xs) ≡ xs
map-back f g [] h = refl
map-back f g (x ∷ xs) h = ap (λ y. y ∷ map g (map f xs)) (h 0 x refl) ∙ ap (λ ys. x ∷ ys) (map-back f g xs (λ i y at. h (suc i) y at))

pub list_any-none : {X : Type 0} (t : X → Bool) (xs : List X) → ((i : ℕ) (x : X) → slice_get xs i ≡ Some x → t x ≡ false) → list_any t xs ≡ false
list_any-none t [] h = refl
list_any-none t (x ∷ xs) h = ap (λ b. b || list_any t xs) (h 0 x refl) ∙ list_any-none t xs (λ i y at. h (suc i) y at)

-- an element of the first n stands before n
pub take_get-back : {X : Type 0} (xs : List X) (n i : ℕ) (x : X) → slice_get (take n xs) i ≡ Some x → (i < n) × (slice_get xs i ≡ Some x)
take_get-back [] zero i x at = let bad : None ≡ Some x = at in absurd (cc)
take_get-back [] (suc n) i x at = let bad : None ≡ Some x = at in absurd (cc)
take_get-back (y ∷ ys) zero i x at = let bad : None ≡ Some x = at in absurd (cc)
take_get-back (y ∷ ys) (suc n) zero x at = (omega arith, at)
take_get-back (y ∷ ys) (suc n) (suc i) x at = let rest = take_get-back ys n i x at in (omega (arith, rest.0), rest.1)

-- two facts of one answer
pub if_ok_both : {X E : Type 0} (r : Result X E) (P Q : X → Type 0) → IfOk r P → IfOk r Q → IfOk r (λ x. P x × Q x)
if_ok_both (Ok x) P Q p q = (p, q)
if_ok_both (Err e) P Q p q = tt

-- the first item of a list that was read
pub read_item : {T : Type 0} (o : Option T) (rest : Option (List T)) (xs : List T) → option_and_then (λ x. option_map (λ ys. x ∷ ys) rest) o ≡ Some xs
    → (x : T) × ((ys : List T) × ((o ≡ Some x) × (rest ≡ Some ys) × (x ∷ ys ≡ xs)))
read_item None rest xs e = let bad : None ≡ Some xs = e in absurd (cc)
read_item (Some x) None xs e = let bad : None ≡ Some xs = e in absurd (cc)
read_item (Some x) (Some ys) xs e = (x, (ys, (refl, refl, (cc))))

-- a word reads back
pub word_back : (w : ℕ) → w < 2 ^ 32 → word_in (word_data w) ≡ Some w
word_back w h = ap (λ b. cond b (Some w) None) (lt-ltb w (2 ^ 32) h)
