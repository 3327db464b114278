-- Classes of bytes.
use Rattle.std.specs.Prelude.{ℕ, Bool, ◌==◌, ◌||◌, not}
use Rattle.std.specs.Char.{is_ascii_digit, is_ascii_hexdigit}
use Rattle.cg_c_syntax.specs.Pieces.{is_space, is_word_byte, is_x, is_u, is_plus_or_minus}
use Rattle.cg_c_reader.specs.declared.bytes.Class.{Class}
use Rattle.cg_c_reader.specs.declared.bytes.Class.TheVariants.{Space, Word, Digit, Hexadecimal, InLine, Backslash, LetterX, LetterU, Sign, InNumber}

-- the test of each class
abbrev pub in_class : Class → ℕ → Bool
in_class Space = is_space
in_class Word = is_word_byte
in_class Digit = is_ascii_digit
in_class Hexadecimal = is_ascii_hexdigit
in_class InLine = λ b. not (b == 10)
in_class Backslash = λ b. b == 92
in_class LetterX = is_x
in_class LetterU = is_u
in_class Sign = is_plus_or_minus
in_class InNumber = λ b. is_word_byte b || b == 46
