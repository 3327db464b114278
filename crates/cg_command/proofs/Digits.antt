-- What a word of digits is read as.
use Rattle.std.proofs.Common.{◌≡◌, ℕ, ◌<◌, ◌&&◌, ◌^◌, true, List, Result, Err, None, length, refl, subst, arith, ⊎_elim, nat_lt, nat_le}
use Rattle.std.specs.Result.{OkIff}
use Rattle.std.specs.Char.{is_ascii_digit}
use Rattle.std.specs.List.{list_all}
use Rattle.std.specs.Str.Parse.{digits_value, digits_value_after, ParsesUnsigned}
use Rattle.std.proofs.lemmas.Bool.{cases_lt, lt-leb, and_parts}
use borrow.Author.Tests.{ltb-true}
use Rattle.std.proofs.lemmas.Str.Parse.{IsNumeralModel, numerals_by_fold, parse_digits}
use Rattle.std.proofs.Common.{rules}
use Rattle.cg_command.specs.Words.{is_number, number_up_to}

own : IsNumeralModel (λ ds. list_all is_ascii_digit ds ≡ true) (digits_value_after 10 0)
own = numerals_by_fold _ (search rules) (digits_value_after 10) (search rules)

-- a word that is read as no number of 64 bits is no number up to `most`
pub too_great : {E : Type 0} (word : List ℕ) (most : ℕ) (r : Result ℕ E) (e : E) → is_number word ≡ true → most < 2 ^ 64 → ParsesUnsigned 64 10 word r → r ≡ Err e → number_up_to most word ≡ None
too_great word most r e n small parsed refused =
    let digits = (and_parts _ _ (and_parts _ _ n).1).1 in
    let some : nat_lt 0 (length word) ≡ true = (and_parts (nat_lt 0 (length word)) (nat_le (length word) 20 && list_all is_ascii_digit word) n).0 in
    let positive : 0 < length word = ltb-true 0 (length word) some in
    let not_small : ¬ ((0 < length word) × (digits_value 10 word < 2 ^ 64)) = subst (λ z. OkIff z ((0 < length word) × (digits_value 10 word < 2 ^ 64)) (digits_value 10 word)) refused (parse_digits own 64 word r parsed digits) in
    let great : most < digits_value 10 word = ⊎_elim (λ l. absurd (not_small (positive, l))) (λ l. omega arith) (cases_lt (digits_value 10 word) (2 ^ 64)) in
    rw (n, lt-leb (digits_value 10 word) most great) refl
