-- Texts of numbers: they are texts of ASCII, they are read as what they are, and they are compared from their last digit on.
use Rattle.std.proofs.Common.{◌≡◌, ℕ, zero, suc, ◌+◌, ◌-◌, ◌*◌, ◌/◌, ◌%◌, ◌^◌, ◌<◌, ◌≤◌, Bool, true, false, cond, eqb, List, [], ◌∷◌, ◌++◌, length, take, drop, get_or, Option, Some, None, refl, ap, sym, ◌∙◌, subst, arith, append_assoc, length-append}
use Rattle.std.specs.Prelude.{◌≢◌, IsTrue, ◌↔◌}
use Rattle.std.specs.Fmt.{digits, digits_onto, digit_glyph}
use Rattle.std.specs.Char.{digit_value}
use Rattle.std.specs.Str.{IsUtf8}
use Rattle.std.specs.Str.Parse.{IsNumeral, digits_value, without_leading_plus}
use Rattle.std.proofs.Math.Nat.{div-eq_of_lt, div-lt_iff_lt-mul, mul-le-mul_left, pow-suc, pow-le-pow_left}
use Rattle.std.proofs.lemmas.Bool.{cond_both, cond-true, cond-false, eqb-true, eq-eqb, ne_eqb, both_ways}
use Rattle.std.proofs.lemmas.List.{append_cancel_right, take_all, take_more}
use Rattle.std.proofs.lemmas.Str.{IsUtf8-from_ascii}
use Rattle.std.proofs.lemmas.Fmt.{digits_is_IsNumeral}
use Rattle.cg_netlist.specs.Reads.{IsWritten, IsCount, Parses}
use Rattle.cg_netlist.proofs.Letters.{plain_ascii, plain_digits}

-- ---- read

pub digits_utf8 : (base n : ℕ) → 0 < base → base ≤ 16 → IsUtf8 (digits base false n)
digits_utf8 base n some few = IsUtf8-from_ascii (digits base false n) (plain_ascii (digits base false n) (plain_digits base n some few))

no_plus : (base : ℕ) (bs : List ℕ) → base ≤ 16 → IsNumeral base bs → without_leading_plus bs ≡ bs
no_plus base [] few h = refl
no_plus base (b ∷ bs) few h =
    cond_both (eqb b 43) 1 0 (λ n. drop n (b ∷ bs) ≡ b ∷ bs)
    (λ e. let is = eqb-true b 43 e in let low : digit_value 43 < base = subst (λ n. digit_value n < base) is h.1.0 in absurd (omega (arith, low)))
    (λ e. refl)

pub room : (base n : ℕ) → 10 ≤ base → n < 2 ^ 32 → n < base ^ 64
room base n low h = let most : 10 ^ 64 ≤ base ^ 64 = pow-le-pow_left {n = 10} {m = base} low 64 in omega (arith, most)

-- the text of a number is a numeral of that value
pub numeral_back : (base : ℕ) (text : List ℕ) (n : ℕ) → 10 ≤ base → base ≤ 16 → n < 2 ^ 32 → text ≡ digits base false n
    → (IsNumeral base (without_leading_plus text) × (digits_value base (without_leading_plus text) < 2 ^ 32)) × (digits_value base (without_leading_plus text) ≡ n)
numeral_back base text n some few low is =
    let numeral = digits_is_IsNumeral base false (omega arith) few n (room base n some low) in
    let plus : without_leading_plus text ≡ digits base false n = ap without_leading_plus is ∙ no_plus base (digits base false n) few numeral.0 in
    let value : digits_value base (without_leading_plus text) ≡ n = ap (digits_value base) plus ∙ numeral.1 in
    let fits : digits_value base (without_leading_plus text) < 2 ^ 32 = omega (arith, value, low) in
    let own : IsNumeral base (without_leading_plus text) = subst (IsNumeral base) (sym plus) numeral.0 in
    ((own, fits), value)

pub value_back : (base n : ℕ) → 10 ≤ base → base ≤ 16 → n < 2 ^ 32 → digits_value base (digits base false n) ≡ n
value_back base n some few low = (digits_is_IsNumeral base false (omega arith) few n (room base n some low)).1

-- ---- compared

-- one more digit at most makes no difference where there is room
fuel : (k base n : ℕ) (rest : List ℕ) → 2 ≤ base → n < 2 ^ suc k → digits_onto (suc (suc k)) base false n rest ≡ digits_onto (suc k) base false n rest
fuel zero base n rest two low =
    let low_n : n < base = omega (arith, low, two) in
    let none : eqb (n / base) 0 ≡ true = eq-eqb (n / base) 0 (div-eq_of_lt low_n) in
    let more : List ℕ = digit_glyph false (n % base) ∷ rest in
    cond-true (eqb (n / base) 0) more (digits_onto 1 base false (n / base) more) none ∙ sym (cond-true (eqb (n / base) 0) more (digits_onto 0 base false (n / base) more) none)
fuel (suc k) base n rest two low =
    let more : List ℕ = digit_glyph false (n % base) ∷ rest in
    let grown : 2 ^ suc k * 2 ≤ 2 ^ suc k * base = mul-le-mul_left (2 ^ suc k) two in
    let power : 2 ^ suc (suc k) ≡ 2 ^ suc k * 2 = pow-suc 2 (suc k) in
    let below : n < 2 ^ suc k * base = omega (arith, grown, power, low) in
    let some : 0 < base = omega arith in
    let half : n / base < 2 ^ suc k = (div-lt_iff_lt-mul {k = base} {x = n} {y = 2 ^ suc k} some).1 below in
    ap (λ t. cond (eqb (n / base) 0) more t) (fuel k base (n / base) more two half)

either_onto : (b : Bool) (g : ℕ) (rest long short : List ℕ) → long ≡ short ++ rest → cond b (g ∷ rest) long ≡ cond b (g ∷ []) short ++ rest
either_onto true g rest long short e = refl
either_onto false g rest long short e = e

onto_is : (k base n : ℕ) (rest : List ℕ) → digits_onto k base false n rest ≡ digits_onto k base false n [] ++ rest
onto_is zero base n rest = refl
onto_is (suc k) base n rest =
    let g : ℕ = digit_glyph false (n % base) in
    either_onto (eqb (n / base) 0) g rest (digits_onto k base false (n / base) (g ∷ rest)) (digits_onto k base false (n / base) (g ∷ []))
    (onto_is k base (n / base) (g ∷ rest) ∙ sym (append_assoc (digits_onto k base false (n / base) []) (g ∷ []) rest) ∙ ap (λ t. t ++ rest) (sym (onto_is k base (n / base) (g ∷ []))))

-- a number of one digit
short : (base n : ℕ) → n / base ≡ 0 → digits base false n ≡ digit_glyph false (n % base) ∷ []
unfolding digits
short base n none =
    cond-true (eqb (n / base) 0) (digit_glyph false (n % base) ∷ []) (digits_onto 63 base false (n / base) (digit_glyph false (n % base) ∷ [])) (eq-eqb (n / base) 0 none)

-- and one of more
long : (base n : ℕ) → 2 ≤ base → n < 2 ^ 32 → eqb (n / base) 0 ≡ false → digits base false n ≡ digits base false (n / base) ++ digit_glyph false (n % base) ∷ []
unfolding digits
long base n two low more =
    let g : ℕ = digit_glyph false (n % base) in
    let some : 0 < base = omega arith in
    let most : n < 2 ^ 63 * base = let grown : 2 ^ 63 * 2 ≤ 2 ^ 63 * base = mul-le-mul_left (2 ^ 63) two in omega (arith, grown, low) in
    let below : n / base < 2 ^ suc 62 = (div-lt_iff_lt-mul {k = base} {x = n} {y = 2 ^ 63} some).1 most in
    cond-false (eqb (n / base) 0) (g ∷ []) (digits_onto 63 base false (n / base) (g ∷ [])) more
    ∙ onto_is 63 base (n / base) (g ∷ [])
    ∙ ap (λ t. t ++ g ∷ []) (sym (fuel 62 base (n / base) [] two below))

pub last_same : (xs ys : List ℕ) (a b : ℕ) → xs ++ a ∷ [] ≡ ys ++ b ∷ [] → a ≡ b
last_same [] [] a b e = ap (λ zs. get_or zs 0 0) e
last_same [] (y ∷ ys) a b e = let long = ap length e in let more = length-append ys (b ∷ []) in absurd (omega (arith, long, more))
last_same (x ∷ xs) [] a b e = let long = ap length e in let more = length-append xs (a ∷ []) in absurd (omega (arith, long, more))
last_same (x ∷ xs) (y ∷ ys) a b e = last_same xs ys a b (ap (drop 1) e)

front_same : (xs ys : List ℕ) (a b : ℕ) → xs ++ a ∷ [] ≡ ys ++ b ∷ [] → xs ≡ ys
front_same xs ys a b e =
    append_cancel_right xs ys (b ∷ []) (ap (λ z. xs ++ z ∷ []) (sym (last_same xs ys a b e)) ∙ e)

-- the digits end with the digit of the remainder
last_digit : (base n : ℕ) → 2 ≤ base → n < 2 ^ 32 → (front : List ℕ) × (digits base false n ≡ front ++ digit_glyph false (n % base) ∷ [])
last_digit base n two low =
    let P : Bool → Type 0 = λ b. eqb (n / base) 0 ≡ b → (front : List ℕ) × (digits base false n ≡ front ++ digit_glyph false (n % base) ∷ []) in
    (elim (eqb (n / base) 0) as P [ true ↦ λ e. ([], short base n (eqb-true (n / base) 0 e)) | false ↦ λ e. (digits base false (n / base), long base n two low e) ]) refl

pub empty_missed : (base n : ℕ) (text : List ℕ) → 2 ≤ base → n < 2 ^ 32 → length text ≡ 0 → (IsTrue false ↔ (text ≡ digits base false n))
empty_missed base n text two low none = (
  λ e. let bad : false ≡ true = e in absurd (cc),
  λ e.
      let last = last_digit base n two low in
      let all = ap length (e ∙ last.1) in
      let more = length-append last.0 (digit_glyph false (n % base) ∷ []) in
      absurd (omega (arith, all, more, none)),
)

pub last_missed : (base n : ℕ) (text front : List ℕ) (b : ℕ) → 2 ≤ base → n < 2 ^ 32 → text ≡ front ++ b ∷ [] → b ≢ digit_glyph false (n % base) → (IsTrue false ↔ (text ≡ digits base false n))
last_missed base n text front b two low is apart = (
  λ e. let bad : false ≡ true = e in absurd (cc),
  λ e. let last = last_digit base n two low in absurd (apart (last_same front last.0 b (digit_glyph false (n % base)) (sym is ∙ e ∙ last.1))),
)

pub single_found : (base n : ℕ) (text front : List ℕ) (b : ℕ) (r : Bool) → text ≡ front ++ b ∷ [] → b ≡ digit_glyph false (n % base) → n / base ≡ 0 → (IsTrue r ↔ (length front ≡ 0)) → (IsTrue r ↔ (text ≡ digits base false n))
single_found base n text front b r is same none h = (
  λ e. is ∙ ap (λ x. x ++ b ∷ []) (nothing front (h.0 e)) ∙ ap (λ z. z ∷ []) same ∙ sym (short base n none),
  λ e. h.1 (ap length (front_same front [] b (digit_glyph false (n % base)) (sym is ∙ e ∙ short base n none))),
)
  where
    nothing : (xs : List ℕ) → length xs ≡ 0 → xs ≡ []
    nothing [] e = refl
    nothing (x ∷ xs) e = absurd (omega (arith, e))

pub more_found : (base n : ℕ) (text front : List ℕ) (b : ℕ) (r : Bool) → 2 ≤ base → n < 2 ^ 32 → text ≡ front ++ b ∷ [] → b ≡ digit_glyph false (n % base) → n / base ≢ 0
    → (IsTrue r ↔ (front ≡ digits base false (n / base))) → (IsTrue r ↔ (text ≡ digits base false n))
more_found base n text front b r two low is same some h =
    let more : eqb (n / base) 0 ≡ false = ne_eqb (n / base) 0 some in
    let all = long base n two low more in (
      λ e. is ∙ ap (λ x. x ++ b ∷ []) (h.0 e) ∙ ap (λ z. digits base false (n / base) ++ z ∷ []) same ∙ sym all,
      λ e. h.1 (front_same front (digits base false (n / base)) b (digit_glyph false (n % base)) (sym is ∙ e ∙ all)),
    )

-- a text that isn't empty, by its last byte
pub split_last : (text : List ℕ) → length text ≢ 0 → text ≡ take (length text - 1) text ++ get_or text (length text - 1) 0 ∷ []
split_last text some =
    let within : length text - 1 < length text = omega (arith, some) in
    let all : length text - 1 + 1 ≡ length text = omega (arith, some) in
    sym (take_all (length text) text (omega arith)) ∙ ap (λ n. take n text) (sym all) ∙ take_more text (length text - 1) 0 within

-- ---- both

pub written_some : (base n : ℕ) (text : List ℕ) (r : Bool) → n < 2 ^ 32 → r ≡ true → (r ≡ true → text ≡ digits base false n) → IsWritten base text (Some n)
written_some base n text r low e h = (low, h e)

pub written_none : (base n : ℕ) (text : List ℕ) (found : Option ℕ) (r : Bool) → Parses base text found → found ≡ Some n → r ≡ false → (text ≡ digits base false n → r ≡ true) → IsWritten base text None
written_none base n text found r parses is bad good =
    λ m low e.
    let same : Some m ≡ Some n = sym (parses m low e) ∙ is in
    let equal : m ≡ n = ap value same in
    let own : text ≡ digits base false n = e ∙ ap (digits base false) equal in
    both_ways r bad (good own)
  where
    value : Option ℕ → ℕ
    value None = 0
    value (Some x) = x

pub unread : (base : ℕ) (text : List ℕ) → Parses base text None → IsWritten base text None
unread base text parses = λ m low e. let bad : None ≡ Some m = parses m low e in absurd (cc)

-- a number out of its range
pub out_of_range : (most n : ℕ) (text : List ℕ) → most < 2 ^ 32 → IsWritten 10 text (Some n) → (0 < n → n ≤ most → ⊥) → IsCount most text None
out_of_range most n text few h out =
    λ m some low e.
    let same : m ≡ n = sym (value_back 10 m (omega arith) (omega arith) (omega arith)) ∙ ap (digits_value 10) (sym e ∙ h.1) ∙ value_back 10 n (omega arith) (omega arith) h.0 in
    out (omega arith) (omega arith)
