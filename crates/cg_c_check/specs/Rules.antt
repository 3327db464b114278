-- The rules of C for words of 32 bits: how operands are read, what operations give, and what is folded.
use Rattle.std.specs.Prelude.{ℕ, ◌-◌, ◌^◌, nat_lt, nat_le, ◌==◌, Bool, true, false, ◌&&◌, ◌||◌, not, if◌then◌else◌}
use Rattle.cg_word.specs.Word.{words, rank, one_if, apply_of}
use Rattle.cg_word.specs.declared.op.Op.{Op}
use Rattle.cg_word.specs.declared.op.Op.TheVariants as ops
use Rattle.cg_c_syntax.specs.declared.expression.Number.{Number}
use Rattle.cg_c_syntax.specs.declared.expression.Sign.{Sign}
use Rattle.cg_c_syntax.specs.declared.expression.Sign.TheVariants as marks
use Rattle.cg_c_syntax.specs.declared.expression.Binary.{Binary}
use Rattle.cg_c_syntax.specs.declared.expression.Binary.TheVariants.{OrElse, AndThen, Or, Xor, And, Equal, Unequal, Less, AtMost, Greater, AtLeast, ShiftLeft, ShiftRight, Add, Sub, Mul}
use Rattle.cg_c_syntax.specs.declared.expression.Cast.{Cast}
use Rattle.cg_c_syntax.specs.declared.expression.Cast.TheVariants as casts
use Rattle.cg_c_syntax.specs.declared.statement.Signedness.{Signedness}
use Rattle.cg_c_syntax.specs.declared.statement.Signedness.TheVariants.{Signed, Unsigned}
use Rattle.cg_c_check.specs.declared.program.Constant.{Constant}

-- the greatest signed word
abbrev pub most_signed : ℕ
most_signed = 2 ^ 31 - 1

-- ---- kinds of operators

abbrev pub is_shift : Binary → Bool
is_shift ShiftLeft = true
is_shift ShiftRight = true
is_shift _ = false

-- those that evaluate their right side only where they need it
abbrev pub is_conditional : Binary → Bool
is_conditional OrElse = true
is_conditional AndThen = true
is_conditional _ = false

-- those whose value is 0 or 1
abbrev pub is_truth : Binary → Bool
is_truth OrElse = true
is_truth AndThen = true
is_truth Equal = true
is_truth Unequal = true
is_truth Less = true
is_truth AtMost = true
is_truth Greater = true
is_truth AtLeast = true
is_truth _ = false

-- ---- how words are read

-- two words of one operation are read unsigned if one of them is unsigned
abbrev pub common : Signedness → Signedness → Signedness
common Signed s = s
common Unsigned s = Unsigned

-- how an operator reads its operands: a shift like its left side
abbrev pub reading_of : Binary → (left right : Signedness) → Signedness
reading_of op left right = if is_shift op then left else common left right

-- how the value of an operator is read that reads its operands so
abbrev pub value_signedness : Binary → (reading : Signedness) → Signedness
value_signedness op reading = if is_truth op then Signed else reading

abbrev pub sign_signedness : Sign → Signedness → Signedness
sign_signedness marks.Not s = Signed
sign_signedness _ s = s

-- narrow words become signed ones
abbrev pub cast_signedness : Cast → Signedness
cast_signedness casts.Unsigned = Unsigned
cast_signedness _ = Signed

-- ---- what operations give

-- the order of two words
abbrev pub is_less : Signedness → ℕ → ℕ → Bool
is_less Signed x y = nat_lt (rank x) (rank y)
is_less Unsigned x y = nat_lt x y

abbrev pub is_true : ℕ → Bool
is_true x = not (x == 0)

abbrev pub right_shift : Signedness → Op
right_shift Signed = ops.Sar
right_shift Unsigned = ops.Shr

abbrev pub two_words : Binary → Signedness → ℕ → ℕ → ℕ
two_words OrElse s x y = one_if (is_true x || is_true y)
two_words AndThen s x y = one_if (is_true x && is_true y)
two_words Or s x y = apply_of ops.Or x y 0
two_words Xor s x y = apply_of ops.Xor x y 0
two_words And s x y = apply_of ops.And x y 0
two_words Equal s x y = one_if (x == y)
two_words Unequal s x y = one_if (not (x == y))
two_words Less s x y = one_if (is_less s x y)
two_words AtMost s x y = one_if (not (is_less s y x))
two_words Greater s x y = one_if (is_less s y x)
two_words AtLeast s x y = one_if (not (is_less s x y))
two_words ShiftLeft s x y = apply_of ops.Shl x y 0
two_words ShiftRight s x y = apply_of (right_shift s) x y 0
two_words Add s x y = apply_of ops.Add x y 0
two_words Sub s x y = apply_of ops.Sub x y 0
two_words Mul s x y = apply_of ops.Mul x y 0

abbrev pub signed_word : Sign → ℕ → ℕ
signed_word marks.Minus x = apply_of ops.Sub 0 x 0
signed_word marks.Complement x = apply_of ops.Xor x (words - 1) 0
signed_word marks.Not x = one_if (x == 0)
signed_word marks.Plus x = x

-- the lowest bits, of which the first is a sign
abbrev pub extended : (bits : ℕ) → ℕ → ℕ
extended bits x = apply_of ops.Sar (apply_of ops.Shl x (32 - bits) 0) (32 - bits) 0

abbrev pub cast_word : Cast → ℕ → ℕ
cast_word casts.Signed x = x
cast_word casts.Unsigned x = x
cast_word casts.SignedByte x = extended 8 x
cast_word casts.SignedHalf x = extended 16 x
cast_word casts.UnsignedByte x = apply_of ops.And x 255 0
cast_word casts.UnsignedHalf x = apply_of ops.And x 65535 0

-- ---- constants

-- F8: a number is a word, and a signed one if it is decimal without u
abbrev pub fits : Number → Bool
fits n = nat_lt n.value words && (n.unsigned || n.hexadecimal || nat_le n.value most_signed)

abbrev pub number_signedness : Number → Signedness
number_signedness n = if n.unsigned || nat_lt most_signed n.value then Unsigned else Signed

abbrev pub constant_of_number : Number → Constant
constant_of_number n = record { word = n.value; signedness = number_signedness n }

abbrev pub is_signed : Signedness → Bool
is_signed Signed = true
is_signed Unsigned = false

-- F8: the value of an enumerator is a signed word
abbrev pub fits_enumerator : Constant → Bool
fits_enumerator c = is_signed c.signedness || nat_le c.word most_signed

-- F9: a count of a shift is below 32
abbrev pub is_wide : Binary → Constant → Bool
is_wide op count = is_shift op && nat_lt 31 count.word

abbrev pub folded_two : Binary → Constant → Constant → Constant
folded_two op x y =
    let reading = reading_of op x.signedness y.signedness in
    record { word = two_words op reading x.word y.word; signedness = value_signedness op reading }

abbrev pub folded_sign : Sign → Constant → Constant
folded_sign sign x = record { word = signed_word sign x.word; signedness = sign_signedness sign x.signedness }

abbrev pub folded_cast : Cast → Constant → Constant
folded_cast to x = record { word = cast_word to x.word; signedness = cast_signedness to }

abbrev pub folded_choice : Constant → Constant → Constant → Constant
folded_choice condition x y =
    record { word = (if is_true condition.word then x.word else y.word); signedness = common x.signedness y.signedness }
