-- Numbers as written in fields: the words of 32 bits that they denote.
use Rattle.std.specs.Prelude.{ℕ, ◌-◌, ◌%◌, ◌^◌, Bool, ◌&&◌, List, length, drop, nat_lt, nat_le, nat_eq, codes, Result, Ok, Err, if◌then◌else◌}
use Rattle.std.specs.Char.{is_digit}
use Rattle.std.specs.List.{list_all, starts_with}
use Rattle.std.specs.Str.Parse.{digits_value}
use Rattle.cg_word.specs.Word.{words}
use Rattle.cg_image_text.specs.declared.fault.Misread.{Misread}
use Rattle.cg_image_text.specs.declared.fault.Misread.TheVariants.{Unknown, Large}

-- the function applied to a result, unless it is a fault
abbrev pub and_then : {A B F : Type 0} → Result A F → (A → Result B F) → Result B F
and_then (Ok x) f = f x
and_then (Err e) f = Err e

-- the text begins with these bytes
abbrev pub begins : List ℕ → List ℕ → Bool
begins front text = starts_with nat_eq text front

-- at least one digit of the base, and nothing else
abbrev pub is_numeral : ℕ → List ℕ → Bool
is_numeral base text = nat_lt 0 (length text) && list_all (λ c. is_digit c base) text

-- a number as a word, if it is one
abbrev pub as_word : ℕ → Result ℕ Misread
as_word n = if nat_lt n words then Ok n else Err Large

-- the word that digits of the base denote
abbrev pub numeral : ℕ → List ℕ → Result ℕ Misread
numeral base text = if is_numeral base text then as_word (digits_value base text) else Err Unknown

-- the word of -n, for n up to 2^31
abbrev pub negated : ℕ → Result ℕ Misread
negated n = if nat_le n (2 ^ 31) then Ok ((words - n) % words) else Err Large

-- a number: - and decimal digits, 0x and hexadecimal digits, or decimal digits
unfoldable pub number : List ℕ → Result ℕ Misread
number text =
    if begins (codes "-") text then and_then (numeral 10 (drop 1 text)) negated
    else (if begins (codes "0x") text then numeral 16 (drop 2 text) else numeral 10 text)
