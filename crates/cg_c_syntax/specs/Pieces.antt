-- What stands at the front of bytes: a blank, a comment, a line feed or a token, the longest that may stand there.
use Rattle.std.specs.Prelude.{ℕ, suc, ◌+◌, nat_lt, Bool, true, false, ◌&&◌, ◌||◌, ◌==◌, not, bytes_eq, codes, if◌then◌else◌, List, [], ◌∷◌, length, take, drop, slice_index, Option, Some, None}
use Rattle.std.specs.List.{prefix_len, list_any}
use Rattle.std.specs.Char.{is_ascii_alphabetic, is_ascii_digit, is_ascii_hexdigit}
use Rattle.cg_c_syntax.specs.declared.token.Kind.TheVariants.{Word, Number, Mark, Stdint, Cgra, Define}
use Rattle.cg_c_syntax.specs.declared.token.Line.{Line}
use Rattle.cg_c_syntax.specs.declared.token.Line.TheVariants.{Fresh, Begun, Directive}
use Rattle.cg_c_syntax.specs.declared.token.Piece.{Piece}
use Rattle.cg_c_syntax.specs.declared.token.Piece.TheVariants.{Gap, LineFeed, Token, Nothing}

-- the bytes begin with a text
abbrev pub begins : List ℕ → List ℕ → Bool
begins text bytes = bytes_eq text (take (length text) bytes)

-- there is a byte, and the first passes
abbrev pub first_is : (ℕ → Bool) → List ℕ → Bool
first_is p [] = false
first_is p (b ∷ bytes) = p b

-- ---- bytes

-- a space or a tab
abbrev pub is_space : ℕ → Bool
is_space b = b == 32 || b == 9

-- a space, a tab or a carriage return
abbrev pub is_blank : ℕ → Bool
is_blank b = is_space b || b == 13

-- a letter or _
abbrev pub is_letter : ℕ → Bool
is_letter b = is_ascii_alphabetic b || b == 95

-- a letter, _ or a digit
abbrev pub is_word_byte : ℕ → Bool
is_word_byte b = is_letter b || is_ascii_digit b

-- below a space, but no tab, line feed or carriage return
abbrev pub is_control : ℕ → Bool
is_control b = nat_lt b 32 && not (b == 9 || (b == 10 || b == 13))

-- a backslash (92) or ??/ is next, either of which may join two lines
abbrev pub is_splice : List ℕ → Bool
is_splice bytes = first_is (λ b. b == 92) bytes || begins (codes "??/") bytes

-- ---- comments

-- a carriage return is next, and another byte than a line feed after it: gcc ends a line there
abbrev pub is_lone_return : List ℕ → Bool
is_lone_return bytes = first_is (λ b. b == 13) bytes && first_is (λ b. not (b == 10)) (drop 1 bytes)

-- a byte that no comment may have is next, or one that no comment of one line may have
abbrev pub is_foul : (one_line : Bool) → List ℕ → Bool
is_foul one_line bytes = is_splice bytes || first_is is_control bytes || (one_line && is_lone_return bytes)

-- the number of bytes at the front that a comment may have
abbrev pub sound_length : (one_line : Bool) → List ℕ → ℕ
sound_length one_line [] = 0
sound_length one_line (b ∷ bytes) = if is_foul one_line (b ∷ bytes) then 0 else suc (sound_length one_line bytes)

abbrev pub one_more : Option ℕ → Option ℕ
one_more None = None
one_more (Some n) = Some (suc n)

-- the number of bytes up to and with the first */
abbrev pub closed_length : List ℕ → Option ℕ
closed_length [] = None
closed_length (b ∷ bytes) = if begins (codes "*/") (b ∷ bytes) then Some 2 else one_more (closed_length bytes)

-- a comment whose first byte is followed by n more
abbrev pub comment_of : (one_line : Bool) → ℕ → List ℕ → Piece
comment_of one_line n bytes = if nat_lt n (sound_length one_line bytes) then Gap n else Nothing (sound_length one_line bytes)

-- /* up to the next */, if there is one
abbrev pub closed_comment : Option ℕ → List ℕ → Piece
closed_comment None bytes = Nothing 0
closed_comment (Some n) bytes = comment_of false (n + 1) bytes

-- // up to the end of the line
abbrev pub line_comment : List ℕ → Piece
line_comment bytes = comment_of true (prefix_len (λ b. not (b == 10)) (drop 1 bytes)) bytes

abbrev pub comment_piece : List ℕ → Piece
comment_piece bytes = if begins (codes "/*") bytes then closed_comment (closed_length (drop 2 bytes)) bytes else line_comment bytes

-- ---- directives

-- the number of spaces and tabs at the front
abbrev pub space_length : List ℕ → ℕ
space_length bytes = prefix_len is_space bytes

-- what follows the spaces and tabs at the front
abbrev pub after_space : List ℕ → List ℕ
after_space bytes = drop (space_length bytes) bytes

-- an include after n bytes of it, with the file's name
abbrev pub file_piece : ℕ → List ℕ → Piece
file_piece n name =
    if begins (codes "<stdint.h>") name then Token Stdint (n + 10)
    else (if begins (codes "\"cgra.h\"") name then Token Cgra (n + 8) else Nothing 0)

-- an include after n bytes of it, with its word
abbrev pub include_piece : ℕ → List ℕ → Piece
include_piece n word = file_piece (n + 7 + space_length (drop 7 word)) (after_space (drop 7 word))

-- the directive of a word after # and n spaces
abbrev pub directive_of : ℕ → List ℕ → Piece
directive_of n word =
    if begins (codes "include") word then include_piece n word
    else (if begins (codes "define") word && not (first_is is_word_byte (drop 6 word)) then Token Define (n + 6) else Nothing 0)

-- after #, the first token of its line
abbrev pub directive_piece : Line → List ℕ → Piece
directive_piece Fresh bytes = directive_of (space_length bytes) (after_space bytes)
directive_piece Begun bytes = Nothing 0
directive_piece Directive bytes = Nothing 0

-- ---- numbers

-- x or X
abbrev pub is_x : ℕ → Bool
is_x b = b == 120 || b == 88

-- u or U
abbrev pub is_u : ℕ → Bool
is_u b = b == 117 || b == 85

-- e or E
abbrev pub is_e : ℕ → Bool
is_e b = b == 101 || b == 69

-- + or -
abbrev pub is_plus_or_minus : ℕ → Bool
is_plus_or_minus b = b == 43 || b == 45

-- the number of digits that follow the first one, with the x of hexadecimal ones; a decimal number that begins with 0
-- has no more
abbrev pub stem_length : List ℕ → ℕ
stem_length bytes =
    if slice_index bytes 0 == 48 then (if first_is is_x (drop 1 bytes) && first_is is_ascii_hexdigit (drop 2 bytes) then prefix_len is_ascii_hexdigit (drop 2 bytes) + 1 else 0)
    else prefix_len is_ascii_digit (drop 1 bytes)

-- the number of bytes that follow the first digit of a number: its other digits, and u
abbrev pub number_length : List ℕ → ℕ
number_length bytes = if first_is is_u (drop (stem_length bytes + 1) bytes) then stem_length bytes + 1 else stem_length bytes

-- after the last byte of a number comes one that would belong to it for the preprocessor
abbrev pub runs_on : (last : ℕ) → List ℕ → Bool
runs_on last rest = first_is (λ b. is_word_byte b || b == 46) rest || (is_e last && first_is is_plus_or_minus rest)

abbrev pub number_piece : List ℕ → Piece
number_piece bytes = if runs_on (slice_index bytes (number_length bytes)) (drop (number_length bytes + 1) bytes) then Nothing 0 else Token Number (number_length bytes)

-- ---- marks

-- one of the bytes
abbrev pub is_one_of : List ℕ → ℕ → Bool
is_one_of bytes b = list_any (λ c. c == b) bytes

-- <<= and >>=
abbrev pub is_mark_of_three : ℕ → ℕ → ℕ → Bool
is_mark_of_three a b c = c == 61 && (is_one_of (codes "<>") b && a == b)

-- the bytes that are a mark with = after them
abbrev pub before_equals : List ℕ
before_equals = codes "<>=!+-*&|^"

-- the bytes that are a mark when doubled
abbrev pub doubled : List ℕ
doubled = codes "+-<>&|"

-- ++ -- << >> && || and <= >= == != += -= *= &= |= ^=
abbrev pub is_mark_of_two : ℕ → ℕ → Bool
is_mark_of_two a b = (b == 61 && is_one_of before_equals a) || (is_one_of doubled b && a == b)

abbrev pub is_mark : ℕ → Bool
is_mark a = is_one_of (codes "+-*&|^~!<>=?:;,()[]{}") a

-- the longest mark; behind the end stands 0, which is in no mark
abbrev pub mark_piece : List ℕ → Piece
mark_piece bytes =
    if is_mark_of_three (slice_index bytes 0) (slice_index bytes 1) (slice_index bytes 2) then Token Mark 2
    else (if is_mark_of_two (slice_index bytes 0) (slice_index bytes 1) then Token Mark 1
    else (if is_mark (slice_index bytes 0) then Token Mark 0 else Nothing 0))

-- ---- pieces

-- a word, a number or a mark
abbrev pub token_piece : List ℕ → Piece
token_piece bytes =
    if is_letter (slice_index bytes 0) then Token Word (prefix_len is_word_byte (drop 1 bytes))
    else (if is_ascii_digit (slice_index bytes 0) then number_piece bytes else mark_piece bytes)

-- a blank: in a directive's line no carriage return at which gcc ends it
abbrev pub blank_piece : Line → List ℕ → Piece
blank_piece Fresh bytes = Gap 0
blank_piece Begun bytes = Gap 0
blank_piece Directive bytes = if is_lone_return bytes then Nothing 0 else Gap 0

-- where neither \ nor ??/ is next
abbrev pub plain_piece : Line → List ℕ → Piece
plain_piece line bytes =
    if slice_index bytes 0 == 10 then LineFeed
    else (if is_blank (slice_index bytes 0) then blank_piece line bytes
    else (if begins (codes "/*") bytes || begins (codes "//") bytes then comment_piece bytes
    else (if slice_index bytes 0 == 35 then directive_piece line (drop 1 bytes) else token_piece bytes)))

-- what stands at the front of bytes, of which there is one
abbrev pub piece_of : Line → List ℕ → Piece
piece_of line bytes = if is_splice bytes then Nothing 0 else plain_piece line bytes
