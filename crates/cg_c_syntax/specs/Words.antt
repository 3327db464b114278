-- Tokens by their texts.
use Rattle.std.specs.Prelude.{ℕ, ◌+◌, ◌-◌, ◌*◌, ◌^◌, min, nat_le, Bool, true, false, ◌&&◌, ◌||◌, ◌==◌, not, bytes_eq, codes, if◌then◌else◌, List, [], ◌∷◌, take, drop, reverse, Option, Some, None, is_some}
use Rattle.std.specs.List.{prefix_len}
use Rattle.std.specs.Char.{is_ascii_digit, is_ascii_hexdigit}
use Rattle.cg_c_syntax.specs.declared.token.Kind.{Kind}
use Rattle.cg_c_syntax.specs.declared.token.Kind.TheVariants as kinds
use Rattle.cg_c_syntax.specs.declared.expression.Sign.{Sign}
use Rattle.cg_c_syntax.specs.declared.expression.Sign.TheVariants.{Minus, Complement, Not, Plus}
use Rattle.cg_c_syntax.specs.declared.expression.Binary.{Binary}
use Rattle.cg_c_syntax.specs.declared.expression.Binary.TheVariants.{OrElse, AndThen, Or, Xor, And, Equal, Unequal, Less, AtMost, Greater, AtLeast, ShiftLeft, ShiftRight, Add, Sub, Mul}
use Rattle.cg_c_syntax.specs.declared.expression.Cast.{Cast}
use Rattle.cg_c_syntax.specs.declared.expression.Cast.TheVariants as casts
use Rattle.cg_c_syntax.specs.declared.expression.Pick.TheVariants.{Min, Max}
use Rattle.cg_c_syntax.specs.declared.statement.Signedness.{Signedness}
use Rattle.cg_c_syntax.specs.declared.statement.Signedness.TheVariants.{Signed, Unsigned}
use Rattle.cg_c_syntax.specs.declared.opening.Opening.{Opening}
use Rattle.cg_c_syntax.specs.declared.opening.Opening.TheVariants as openings
use Rattle.cg_c_syntax.specs.declared.opening.Beginning.{Beginning}
use Rattle.cg_c_syntax.specs.declared.opening.Beginning.TheVariants as beginnings
use Rattle.cg_c_syntax.specs.declared.opening.Change.{Change}
use Rattle.cg_c_syntax.specs.declared.opening.Change.TheVariants.{Step, Set}
use Rattle.cg_c_syntax.specs.Pieces.{first_is, is_x, is_u}
use Rattle.cg_c_syntax.specs.Tokens.{Token}
use Rattle.cg_c_syntax.specs.Tree.{Number, Named}

abbrev pub same : List ℕ → List ℕ → Bool
same s t = bytes_eq s t

abbrev pub is_word : Kind → Bool
is_word kinds.Word = true
is_word _ = false

abbrev pub is_mark : Kind → Bool
is_mark kinds.Mark = true
is_mark _ = false

-- a word, or a mark, of the text
abbrev pub is_the_word : List ℕ → Token → Bool
is_the_word s t = is_word t.kind && same t.text s

abbrev pub is_the_mark : List ℕ → Token → Bool
is_the_mark s t = is_mark t.kind && same t.text s

-- ---- words

-- the type of a cast
unfoldable pub cast_called : List ℕ → Option Cast
cast_called s =
    if same s (codes "int") || same s (codes "int32_t") then Some casts.Signed
    else (if same s (codes "uint32_t") then Some casts.Unsigned
    else (if same s (codes "int8_t") then Some casts.SignedByte
    else (if same s (codes "int16_t") then Some casts.SignedHalf
    else (if same s (codes "uint8_t") then Some casts.UnsignedByte
    else (if same s (codes "uint16_t") then Some casts.UnsignedHalf else None)))))

-- the type of a declaration, which holds whole words
abbrev pub whole : Option Cast → Option Signedness
whole (Some casts.Signed) = Some Signed
whole (Some casts.Unsigned) = Some Unsigned
whole _ = None

-- a word of the language that is no type
unfoldable pub is_language_word : List ℕ → Bool
is_language_word s =
    same s (codes "in") || same s (codes "out") || same s (codes "min") || same s (codes "max") || same s (codes "void") || same s (codes "static")
    || same s (codes "const") || same s (codes "enum") || same s (codes "if") || same s (codes "else") || same s (codes "for")

-- a name: a word that is none of the language
abbrev pub is_name_by : Kind → List ℕ → Bool
is_name_by kind s = is_word kind && not (is_some (cast_called s) || is_language_word s)

abbrev pub is_name : Token → Bool
is_name t = is_name_by t.kind t.text

abbrev pub named : Token → Named
named t = record { name = t.text; place = t.place }

abbrev pub cast_by : Kind → List ℕ → Option Cast
cast_by kind s = if is_word kind then cast_called s else None

abbrev pub cast_of : Token → Option Cast
cast_of t = cast_by t.kind t.text

-- int or int32_t
abbrev pub is_counter_type_by : Kind → List ℕ → Bool
is_counter_type_by kind s = is_word kind && (same s (codes "int") || same s (codes "int32_t"))

abbrev pub is_counter_type : Token → Bool
is_counter_type t = is_counter_type_by t.kind t.text

abbrev pub is_define : Kind → Bool
is_define kinds.Define = true
is_define _ = false

abbrev pub signedness_of : Token → Option Signedness
signedness_of t = whole (cast_of t)

-- ---- numbers

abbrev pub is_number : Kind → Bool
is_number kinds.Number = true
is_number _ = false

-- a digit from 0 to 9, a to f or A to F
abbrev pub digit_value : ℕ → ℕ
digit_value d = if nat_le d 57 then d - 48 else (if nat_le d 70 then d - 55 else d - 87)

-- the number that the digits denote
abbrev pub value_from : (base : ℕ) → ℕ → List ℕ → ℕ
value_from base n [] = n
value_from base n (d ∷ ds) = value_from base (base * n + digit_value d) ds

-- the second byte is x
abbrev pub is_hexadecimal : List ℕ → Bool
is_hexadecimal text = first_is is_x (drop 1 text)

-- the last byte is u
abbrev pub is_unsigned : List ℕ → Bool
is_unsigned text = first_is is_u (reverse text)

abbrev pub hexadecimal_value : List ℕ → ℕ
hexadecimal_value digits = value_from 16 0 (take (prefix_len is_ascii_hexdigit digits) digits)

abbrev pub decimal_value : List ℕ → ℕ
decimal_value digits = value_from 10 0 (take (prefix_len is_ascii_digit digits) digits)

-- the value of a number; 2^32 stands for each from there on
abbrev pub value_of : List ℕ → ℕ
value_of text = min (2 ^ 32) (if is_hexadecimal text then hexadecimal_value (drop 2 text) else decimal_value text)

abbrev pub number_of : Token → Number
number_of t = record { value = value_of t.text; hexadecimal = is_hexadecimal t.text; unsigned = is_unsigned t.text; place = t.place }

-- ---- operators

unfoldable pub sign_called : List ℕ → Option Sign
sign_called s =
    if same s (codes "-") then Some Minus
    else (if same s (codes "~") then Some Complement else (if same s (codes "!") then Some Not else (if same s (codes "+") then Some Plus else None)))

unfoldable pub comparison_called : List ℕ → Option Binary
comparison_called s =
    if same s (codes "==") then Some Equal
    else (if same s (codes "!=") then Some Unequal
    else (if same s (codes "<") then Some Less
    else (if same s (codes "<=") then Some AtMost
    else (if same s (codes ">") then Some Greater else (if same s (codes ">=") then Some AtLeast else None)))))

unfoldable pub bitwise_called : List ℕ → Option Binary
bitwise_called s =
    if same s (codes "|") then Some Or
    else (if same s (codes "^") then Some Xor
    else (if same s (codes "&") then Some And
    else (if same s (codes "<<") then Some ShiftLeft else (if same s (codes ">>") then Some ShiftRight else None))))

unfoldable pub arithmetic_called : List ℕ → Option Binary
arithmetic_called s = if same s (codes "+") then Some Add else (if same s (codes "-") then Some Sub else (if same s (codes "*") then Some Mul else None))

unfoldable pub logical_called : List ℕ → Option Binary
logical_called s = if same s (codes "||") then Some OrElse else (if same s (codes "&&") then Some AndThen else None)

-- the first of two that is there
abbrev pub or_else : {A : Type 0} → Option A → Option A → Option A
or_else (Some a) b = Some a
or_else None b = b

-- the operator that assignments join with =
unfoldable pub computing_called : List ℕ → Option Binary
computing_called s = or_else (arithmetic_called s) (bitwise_called s)

unfoldable pub binary_called : List ℕ → Option Binary
binary_called s = or_else (computing_called s) (or_else (comparison_called s) (logical_called s))

abbrev pub binary_by : Kind → List ℕ → Option Binary
binary_by kind s = if is_mark kind then binary_called s else None

abbrev pub binary_of : Token → Option Binary
binary_of t = binary_by t.kind t.text

-- how loosely an operator binds: from 1 for * to 10 for ||
abbrev pub level_of : Binary → ℕ
level_of Mul = 1
level_of Add = 2
level_of Sub = 2
level_of ShiftLeft = 3
level_of ShiftRight = 3
level_of Less = 4
level_of AtMost = 4
level_of Greater = 4
level_of AtLeast = 4
level_of Equal = 5
level_of Unequal = 5
level_of And = 6
level_of Xor = 7
level_of Or = 8
level_of AndThen = 9
level_of OrElse = 10

-- an operator of the level
abbrev pub at_level : ℕ → Option Binary → Option Binary
at_level level None = None
at_level level (Some op) = if level_of op == level then Some op else None

-- ---- what a token begins

-- an operand
unfoldable pub mark_opening : List ℕ → Option Sign → Opening
mark_opening s (Some sign) = openings.Sign sign
mark_opening s None = if same s (codes "(") then openings.Bracket else openings.Nothing

unfoldable pub word_opening : List ℕ → Opening
word_opening s =
    if same s (codes "in") then openings.Input
    else (if same s (codes "min") then openings.Pick Min
    else (if same s (codes "max") then openings.Pick Max
    else (if is_some (cast_called s) || is_language_word s then openings.Nothing else openings.Name)))

abbrev pub opening_by : Kind → List ℕ → Opening
opening_by kinds.Word s = word_opening s
opening_by kinds.Number s = openings.Number
opening_by kinds.Mark s = mark_opening s (sign_called s)
opening_by _ s = openings.Nothing

abbrev pub opening_of : Token → Opening
opening_of t = opening_by t.kind t.text

-- a statement
unfoldable pub word_beginning : List ℕ → Beginning
word_beginning s =
    if same s (codes "if") then beginnings.If
    else (if same s (codes "out") then beginnings.Output
    else (if is_some (cast_called s) || is_language_word s then beginnings.Nothing else beginnings.Name))

abbrev pub beginning_by : Kind → List ℕ → Beginning
beginning_by kinds.Word s = word_beginning s
beginning_by kinds.Mark s = if same s (codes "{") then beginnings.Block else beginnings.Nothing
beginning_by _ s = beginnings.Nothing

abbrev pub beginning_of : Token → Beginning
beginning_of t = beginning_by t.kind t.text

-- what an assignment does

unfoldable pub computing_change : List ℕ → Option Binary
computing_change s =
    if same s (codes "+=") then Some Add
    else (if same s (codes "-=") then Some Sub
    else (if same s (codes "*=") then Some Mul
    else (if same s (codes "&=") then Some And
    else (if same s (codes "|=") then Some Or
    else (if same s (codes "^=") then Some Xor
    else (if same s (codes "<<=") then Some ShiftLeft else (if same s (codes ">>=") then Some ShiftRight else None)))))))

abbrev pub with_operator : Option Binary → Option Change
with_operator None = None
with_operator (Some op) = Some (Set (Some op))

unfoldable pub change_called : List ℕ → Option Change
change_called s =
    if same s (codes "++") then Some (Step Add)
    else (if same s (codes "--") then Some (Step Sub) else (if same s (codes "=") then Some (Set None) else with_operator (computing_change s)))

abbrev pub change_by : Kind → List ℕ → Option Change
change_by kind s = if is_mark kind then change_called s else None

abbrev pub change_of : Token → Option Change
change_of t = change_by t.kind t.text
