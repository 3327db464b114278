-- Numbers, digit by digit.
use Rattle.std.proofs.Common.{◌≡◌, ℕ, zero, suc, ◌+◌, ◌-◌, ◌*◌, ◌<◌, ◌≤◌, ◌^◌, true, List, [], ◌∷◌, ◌++◌, length, take, refl, sym, ap, ◌∙◌, arith}
use Rattle.std.specs.Prelude.{slice_index_or, nat_le}
use Rattle.std.specs.List.{list_all}
use Rattle.std.specs.Char.{is_ascii_digit}
use Rattle.std.proofs.lemmas.List.{take_more}
use Rattle.std.proofs.Math.Nat.{pow-succ'}
use Rattle.std.proofs.lemmas.Bool.{and_parts}
use borrow.Author.Tests.{leb-true}
use Rattle.cg_loop_text_spec.specs.Words.{number_from, number_of}

number_push : (n : ℕ) (ds : List ℕ) (d : ℕ) → number_from n (ds ++ d ∷ []) ≡ 10 * number_from n ds + (d - 48)
number_push n [] d = refl
number_push n (x ∷ xs) d = number_push (10 * n + (x - 48)) xs d

-- one digit more
pub number_more : (t : List ℕ) (i n : ℕ) → i < length t → n ≡ number_of (take i t) → 10 * n + (slice_index_or t i 0 - 48) ≡ number_of (take (i + 1) t)
number_more t i n l e =
    ap (λ z. 10 * z + (slice_index_or t i 0 - 48)) e ∙ sym (number_push 0 (take i t) (slice_index_or t i 0)) ∙ ap number_of (sym (take_more t i 0 l))

digit_small : (t : List ℕ) (i : ℕ) → list_all is_ascii_digit t ≡ true → slice_index_or t i 0 - 48 ≤ 9
digit_small [] i h = omega arith
digit_small (x ∷ xs) zero h = let both = and_parts (is_ascii_digit x) (list_all is_ascii_digit xs) h in let range = and_parts (nat_le 48 x) (nat_le x 57) both.0 in let most = leb-true x 57 range.1 in omega arith
digit_small (x ∷ xs) (suc i) h = digit_small xs i (and_parts (is_ascii_digit x) (list_all is_ascii_digit xs) h).1

pub number_small : (t : List ℕ) (i n : ℕ) → list_all is_ascii_digit t ≡ true → n < 10 ^ i → 10 * n + (slice_index_or t i 0 - 48) < 10 ^ (i + 1)
number_small t i n h l = let d = digit_small t i h in let p : 10 ^ (i + 1) ≡ 10 * 10 ^ i = ap (λ k. 10 ^ k) (plus_one i) ∙ pow-succ' 10 i in omega arith
  where
    plus_one : (k : ℕ) → k + 1 ≡ suc k
    plus_one k = omega arith
