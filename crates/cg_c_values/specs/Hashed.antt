-- What a value is hashed by.
use Rattle.std.specs.Prelude.{ℕ}
use Rattle.cg_word.specs.Word.{code}
use Rattle.cg_c_values.specs.declared.value.Value.{Value}
use Rattle.cg_c_values.specs.declared.value.Value.TheVariants.{Const, Turn, Quotient, Digit, Carried, Input, Loaded, Two, Select}

abbrev pub kind_of : Value → ℕ
kind_of (Two op first second) = code op
kind_of (Const word) = 32
kind_of Turn = 33
kind_of (Quotient divisor) = 34
kind_of (Digit divisor radix) = 35
kind_of (Carried number) = 36
kind_of (Input port) = 37
kind_of (Loaded array version guard address) = 38
kind_of (Select condition chosen other) = 39

abbrev pub first_of : Value → ℕ
first_of (Const word) = word
first_of Turn = 0
first_of (Quotient divisor) = divisor
first_of (Digit divisor radix) = divisor
first_of (Carried number) = number
first_of (Input port) = port
first_of (Loaded array version guard address) = address
first_of (Two op first second) = first
first_of (Select condition chosen other) = condition

abbrev pub second_of : Value → ℕ
second_of (Digit divisor radix) = radix
second_of (Loaded array version guard address) = version
second_of (Two op first second) = second
second_of (Select condition chosen other) = chosen
second_of _ = 0

abbrev pub third_of : Value → ℕ
third_of (Loaded array version guard address) = array
third_of (Select condition chosen other) = other
third_of _ = 0
