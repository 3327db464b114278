-- Decimal numbers as fields: what they are made of, and what they say.
use Rattle.std.proofs.Common.{◌≡◌, ℕ, zero, suc, ◌+◌, ◌-◌, ◌<◌, Bool, true, false, cond, ◌&&◌, nat_eq, List, [], ◌∷◌, length, take, drop, Ok, Err, codes, refl, ◌∙◌, ap, ⊎_elim, arith}
use Rattle.std.specs.Prelude.{not, bytes_eq}
use Rattle.std.specs.Char.{digit_value, is_digit}
use Rattle.std.specs.List.{list_all, prefix_len}
use Rattle.std.specs.Str.Parse.{AllDigits, IsNumeral, digits_value}
use Rattle.std.proofs.lemmas.Bool.{lt-ltb, not-true}
use Rattle.std.proofs.lemmas.Bool.Decides.{leb_tells}
use Rattle.std.proofs.lemmas.Str.Parse.{digit_from_value}
use Rattle.cg_word.specs.Word.{words}
use Rattle.cg_image_text.specs.declared.fault.Misread.TheVariants.{Unknown, Large}
use Rattle.cg_image_text.specs.declared.run.Run.{Run}
use Rattle.cg_image_text.specs.Numbers.{and_then, begins, as_word, negated, numeral, number}
use Rattle.cg_image_text.specs.Runs.{is_in_first, run_by, run_of}

-- a test of each number below a limit
abbrev pub all_below : (ℕ → Bool) → ℕ → Bool
all_below p zero = true
all_below p (suc n) = p n && all_below p n

pub both : (a b : Bool) → a && b ≡ true → (a ≡ true) × (b ≡ true)
both true b h = (refl, h)
both false b h = cc

below : (p : ℕ → Bool) (k n : ℕ) → all_below p k ≡ true → n < k → p n ≡ true
below p zero n h lt = absurd (omega arith)
below p (suc k) n h lt =
    let q = both (p k) (all_below p k) h in
    ⊎_elim (λ w. let least = w.1 in let last : n ≡ k = omega arith in ap p last ∙ q.0) (λ w. below p k n q.1 w.1) (leb_tells k n)

-- what all ten digits pass
abbrev pub ten_pass : (ℕ → Bool) → Bool
ten_pass p = all_below (λ k. p (48 + k)) 10

-- a digit passes it
pub digit_passes : (p : ℕ → Bool) (c : ℕ) → ten_pass p ≡ true → digit_value c < 10 → p c ≡ true
digit_passes p c h low =
    let range = digit_from_value c low in
    let least = range.0 in
    let most = range.1 in
    let back : c ≡ 48 + (c - 48) = omega arith in
    let few : c - 48 < 10 = omega arith in
    ap p back ∙ below (λ k. p (48 + k)) 10 (c - 48) h few

pub digits_pass : (p : ℕ → Bool) (ds : List ℕ) → ten_pass p ≡ true → AllDigits 10 ds → list_all p ds ≡ true
digits_pass p [] h all = refl
digits_pass p (d ∷ ds) h all = ap (λ b. b && list_all p ds) (digit_passes p d h all.0) ∙ digits_pass p ds h all.1

pub prefix_all : (p : ℕ → Bool) (xs : List ℕ) → list_all p xs ≡ true → prefix_len p xs ≡ length xs
prefix_all p [] h = refl
prefix_all p (x ∷ xs) h =
    let q = both (p x) (list_all p xs) h in
    let rest = prefix_all p xs q.1 in
    ap (λ b. cond b (1 + prefix_len p xs) 0) q.0 ∙ omega (arith, rest)

are_digits : (ds : List ℕ) → AllDigits 10 ds → list_all (λ c. is_digit c 10) ds ≡ true
are_digits [] all = refl
are_digits (d ∷ ds) all = ap (λ b. b && list_all (λ c. is_digit c 10) ds) (lt-ltb (digit_value d) 10 all.0) ∙ are_digits ds all.1

-- digits that write a word
pub numeral_is : (t : List ℕ) (w : ℕ) → IsNumeral 10 t → digits_value 10 t ≡ w → w < words → numeral 10 t ≡ Ok w
numeral_is t w h is low =
    ap (λ b. cond (b && list_all (λ c. is_digit c 10) t) (as_word (digits_value 10 t)) (Err Unknown)) (lt-ltb 0 (length t) h.0)
    ∙ ap (λ b. cond b (as_word (digits_value 10 t)) (Err Unknown)) (are_digits t h.1)
    ∙ ap as_word is
    ∙ ap (λ b. cond b (Ok w) (Err Large)) (lt-ltb w words low)

and_none : (b : Bool) → b && false ≡ false
and_none true = refl
and_none false = refl

no_minus : (d : ℕ) (ds : List ℕ) → digit_value d < 10 → begins (codes "-") (d ∷ ds) ≡ false
no_minus d ds low = ap (λ b. b && true) (not-true (nat_eq 45 d) (digit_passes (λ c. not (nat_eq 45 c)) d refl low))

no_hexadecimal : (d : ℕ) (ds : List ℕ) → AllDigits 10 ds → begins (codes "0x") (d ∷ ds) ≡ false
no_hexadecimal d [] all = and_none (nat_eq 48 d)
no_hexadecimal d (e ∷ ds) all =
    ap (λ b. nat_eq 48 d && (b && true)) (not-true (nat_eq 120 e) (digit_passes (λ c. not (nat_eq 120 c)) e refl all.0)) ∙ and_none (nat_eq 48 d)

-- they are a number
pub number_is : (t : List ℕ) (w : ℕ) → IsNumeral 10 t → digits_value 10 t ≡ w → w < words → number t ≡ Ok w
unfolding number
number_is [] w h is low = absurd (omega (arith, h.0))
number_is (d ∷ ds) w h is low =
    ap (λ b. cond b (and_then (numeral 10 (drop 1 (d ∷ ds))) negated) (cond (begins (codes "0x") (d ∷ ds)) (numeral 16 (drop 2 (d ∷ ds))) (numeral 10 (d ∷ ds)))) (no_minus d ds h.1.0)
    ∙ ap (λ b. cond b (numeral 16 (drop 2 (d ∷ ds))) (numeral 10 (d ∷ ds))) (no_hexadecimal d ds h.1.1)
    ∙ numeral_is (d ∷ ds) w h is low

abbrev pub one : ℕ → Run
one w = record { first = w; step = 0; count = 1 }

nothing_behind : (t : List ℕ) → drop (length t) t ≡ []
nothing_behind [] = refl
nothing_behind (d ∷ t) = nothing_behind t

-- and stand for one word
pub run_is : (t : List ℕ) (w : ℕ) → IsNumeral 10 t → digits_value 10 t ≡ w → w < words → run_of t ≡ Ok (one w)
unfolding run_of
run_is t w h is low =
    let size : prefix_len is_in_first t ≡ length t = prefix_all is_in_first t (digits_pass is_in_first t refl h.1) in
    ap (λ n. run_by t (take n t) (drop n t)) size
    ∙ ap (λ x. run_by t (take (length t) t) x) (nothing_behind t)
    ∙ ap (λ x. and_then x (λ word. Ok (one word))) (number_is t w h is low)

-- they are none of the two words
pub other_word : (t : List ℕ) (b : ℕ) (word : List ℕ) → IsNumeral 10 t → ten_pass (λ c. not (nat_eq c b)) ≡ true → bytes_eq t (b ∷ word) ≡ false
other_word [] b word h apart = absurd (omega (arith, h.0))
other_word (d ∷ ds) b word h apart = ap (λ x. x && bytes_eq ds word) (not-true (nat_eq d b) (digit_passes (λ c. not (nat_eq c b)) d apart h.1.0))
