-- Steps of reading digits.
use Rattle.std.proofs.Common.{◌≡◌, ℕ, ◌+◌, ◌*◌, ◌<◌, ◌≤◌, Bool, true, false, cond, ◌&&◌, List, length, get_or, take, drop, Ok, Err, sym, ◌∙◌, ap, arith}
use Rattle.std.specs.List.{list_all}
use Rattle.std.specs.Char.{digit_value}
use Rattle.std.specs.Str.Parse.{digits_value}
use Rattle.std.proofs.lemmas.List.{drop_more}
use Rattle.std.proofs.lemmas.Int.Digits.{digits_value_more}
use Rattle.std.proofs.lemmas.Str.Parse.{digits_value-take-le}
use Rattle.std.proofs.lemmas.Bool.{le-ltb}
use Rattle.cg_word.specs.Word.{words}
use Rattle.cg_image_text.specs.declared.fault.Misread.TheVariants.{Large}
use Rattle.cg_image_text.specs.Numbers.{as_word}

-- one byte more passes
pub all_more : (p : ℕ → Bool) (s : List ℕ) (i : ℕ) (all : Bool) → i < length s → p (get_or s i 0) ≡ true → list_all p (drop i s) ≡ all → list_all p (drop (i + 1) s) ≡ all
all_more p s i all lt h so_far = ap (λ b. b && list_all p (drop (i + 1) s)) (sym h) ∙ ap (list_all p) (sym (drop_more s i 0 lt)) ∙ so_far

-- a byte does not
pub all_stops : (p : ℕ → Bool) (s : List ℕ) (i : ℕ) (all : Bool) → i < length s → p (get_or s i 0) ≡ false → list_all p (drop i s) ≡ all → false ≡ all
all_stops p s i all lt h so_far = ap (λ b. b && list_all p (drop (i + 1) s)) (sym h) ∙ ap (list_all p) (sym (drop_more s i 0 lt)) ∙ so_far

-- a number that no word holds
pub large : (n : ℕ) → words ≤ n → Err Large ≡ as_word n
large n h = ap (λ b. cond b (Ok n) (Err Large)) (sym (le-ltb n words h))

-- one digit more
pub value_more : (base : ℕ) (text : List ℕ) (i value digit : ℕ) → i < length text → value ≡ digits_value base (take i text) → digit ≡ digit_value (get_or text i 0) → value * base + digit ≡ digits_value base (take (i + 1) text)
value_more base text i value digit lt so_far here = ap (λ v. v * base + digit) so_far ∙ ap (λ d. digits_value base (take i text) * base + d) here ∙ sym (digits_value_more base text i lt)

-- what the digits so far write is no word
pub value_large : (base : ℕ) (text : List ℕ) (i n : ℕ) → 1 ≤ base → n ≡ digits_value base (take i text) → words ≤ n → Err Large ≡ as_word (digits_value base text)
value_large base text i n some is h = let part = digits_value-take-le base text i some in large (digits_value base text) (omega arith)
