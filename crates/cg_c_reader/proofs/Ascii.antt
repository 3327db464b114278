-- Words are texts of ASCII.
use Rattle.std.proofs.Common.{◌≡◌, ℕ, zero, suc, ◌+◌, ◌<◌, ◌||◌, ⊎_elim, Bool, true, false, List, [], ◌∷◌, take, Option, Some, None, refl, sym, subst, arith, add-one}
use Rattle.std.specs.Prelude.{nat_le, nat_lt, eqb, ◌==◌, ◌&&◌, not, if◌then◌else◌, codes, slice_index, drop, Result, Ok, Err}
use Rattle.std.specs.Result.{MatchResult, IsOk}
use Rattle.std.specs.List.{prefix_len}
use Rattle.std.specs.Char.{is_ascii_alphabetic, is_ascii_digit}
use Rattle.std.specs.Int.{is_in_range}
use Rattle.std.specs.Str.{IsAscii}
use Rattle.std.proofs.lemmas.Bool.{and_parts, or_cases, leb-true, eqb-true, cond_both, false≢true}
use Rattle.cg_c_syntax.specs.declared.token.Kind.{Kind}
use Rattle.cg_c_syntax.specs.declared.token.Kind.TheVariants.{Word, Number, Mark, Stdint, Cgra, Define}
use Rattle.cg_c_syntax.specs.declared.token.Line.{Line}
use Rattle.cg_c_syntax.specs.declared.token.Line.TheVariants.{Fresh, Begun, Directive}
use Rattle.cg_c_syntax.specs.declared.token.Piece.{Piece}
use Rattle.cg_c_syntax.specs.declared.token.Piece.TheVariants.{Gap, LineFeed, Token, Nothing}
use Rattle.cg_c_syntax.specs.Pieces.{begins, first_is, is_blank, is_lone_return, blank_piece, is_splice, is_mark, is_mark_of_two, is_mark_of_three, runs_on, number_length, sound_length, line_comment, include_piece, is_letter, is_word_byte, closed_length, closed_comment, comment_of, comment_piece, directive_of, file_piece, directive_piece, number_piece, mark_piece, token_piece, plain_piece, piece_of, after_space, space_length}
use Rattle.cg_c_syntax.specs.Words.{is_word}

-- ---- bytes

range_low : (low high b : ℕ) → high < 128 → is_in_range low high b ≡ true → b < 128
range_low low high b h e = let most = leb-true b high (and_parts (nat_le low b) (nat_le b high) e).1 in omega arith

letter_low : (b : ℕ) → is_letter b ≡ true → b < 128
letter_low b e =
    ⊎_elim (λ x. ⊎_elim (λ y. range_low 65 90 b (omega arith) y) (λ y. range_low 97 122 b (omega arith) y) (or_cases (is_in_range 65 90 b) (is_in_range 97 122 b) x))
    (λ x. let same = eqb-true b 95 x in omega arith) (or_cases (is_ascii_alphabetic b) (eqb b 95) e)

word_low : (b : ℕ) → is_word_byte b ≡ true → b < 128
word_low b e = ⊎_elim (λ x. letter_low b x) (λ x. range_low 48 57 b (omega arith) x) (or_cases (is_letter b) (is_ascii_digit b) e)

-- ---- texts

none_ascii : IsAscii []
none_ascii i = omega arith

more_ascii : (b : ℕ) (bs : List ℕ) → b < 128 → IsAscii bs → IsAscii (b ∷ bs)
more_ascii b bs low h zero = low
more_ascii b bs low h (suc i) = h i

taken_ascii : (k n b : ℕ) (bs : List ℕ) → k ≡ suc n → b < 128 → IsAscii (take n bs) → IsAscii (take k (b ∷ bs))
taken_ascii k n b bs e low h = subst (λ (x : ℕ). IsAscii (take x (b ∷ bs))) (sym e) (more_ascii b (take n bs) low h)

run_ascii : (bs : List ℕ) → IsAscii (take (prefix_len is_word_byte bs) bs)
run_ascii [] = none_ascii
run_ascii (b ∷ bs) =
    cond_both (is_word_byte b) (1 + prefix_len is_word_byte bs) 0 (λ (k : ℕ). IsAscii (take k (b ∷ bs)))
    (λ h. taken_ascii (1 + prefix_len is_word_byte bs) (prefix_len is_word_byte bs) b bs (omega arith) (word_low b h) (run_ascii bs)) (λ h. none_ascii)

-- ---- pieces

-- the piece is no word, or a text of ASCII at the front of the bytes
abbrev Sound : List ℕ → Piece → Type 0
Sound bytes (Token kind n) = is_word kind ≡ true → IsAscii (take (n + 1) bytes)
Sound bytes (Gap n) = Unit {0}
Sound bytes LineFeed = Unit {0}
Sound bytes (Nothing n) = Unit {0}

word_sound : (bytes : List ℕ) → is_letter (slice_index bytes 0) ≡ true → Sound bytes (Token Word (prefix_len is_word_byte (drop 1 bytes)))
word_sound [] h = λ e. none_ascii
word_sound (b ∷ bytes) h = λ e. taken_ascii (prefix_len is_word_byte bytes + 1) (prefix_len is_word_byte bytes) b bytes (add-one _) (letter_low b h) (run_ascii bytes)

-- a token that is no word
no_word : {A : Type 0} → false ≡ true → A
no_word e = absurd (false≢true e)

number_sound : (bytes : List ℕ) → Sound bytes (number_piece bytes)
number_sound bytes =
    cond_both (runs_on (slice_index bytes (number_length bytes)) (drop (number_length bytes + 1) bytes)) (Nothing 0) (Token Number (number_length bytes)) (Sound bytes) (λ h. tt) (λ h. λ e. no_word e)

mark_sound : (bytes : List ℕ) → Sound bytes (mark_piece bytes)
mark_sound bytes =
    let one = if◌then◌else◌ (is_mark (slice_index bytes 0)) (Token Mark 0) (Nothing 0) in
    let two = if◌then◌else◌ (is_mark_of_two (slice_index bytes 0) (slice_index bytes 1)) (Token Mark 1) one in
    cond_both (is_mark_of_three (slice_index bytes 0) (slice_index bytes 1) (slice_index bytes 2)) (Token Mark 2) two (Sound bytes) (λ h. λ e. no_word e)
    (λ h. cond_both (is_mark_of_two (slice_index bytes 0) (slice_index bytes 1)) (Token Mark 1) one (Sound bytes) (λ x. λ e. no_word e)
    (λ x. cond_both (is_mark (slice_index bytes 0)) (Token Mark 0) (Nothing 0) (Sound bytes) (λ y. λ e. no_word e) (λ y. tt)))

token_sound : (bytes : List ℕ) → Sound bytes (token_piece bytes)
token_sound bytes =
    cond_both (is_letter (slice_index bytes 0)) (Token Word (prefix_len is_word_byte (drop 1 bytes))) (if◌then◌else◌ (is_ascii_digit (slice_index bytes 0)) (number_piece bytes) (mark_piece bytes)) (Sound bytes)
    (λ h. word_sound bytes h) (λ h. cond_both (is_ascii_digit (slice_index bytes 0)) (number_piece bytes) (mark_piece bytes) (Sound bytes) (λ x. number_sound bytes) (λ x. mark_sound bytes))

comment_of_sound : (all : List ℕ) (one_line : Bool) (n : ℕ) (bytes : List ℕ) → Sound all (comment_of one_line n bytes)
comment_of_sound all one_line n bytes = cond_both (nat_lt n (sound_length one_line bytes)) (Gap n) (Nothing (sound_length one_line bytes)) (Sound all) (λ h. tt) (λ h. tt)

closed_sound : (all : List ℕ) (o : Option ℕ) (bytes : List ℕ) → Sound all (closed_comment o bytes)
closed_sound all None bytes = tt
closed_sound all (Some n) bytes = comment_of_sound all false (n + 1) bytes

comment_sound : (bytes : List ℕ) → Sound bytes (comment_piece bytes)
comment_sound bytes =
    cond_both (begins (codes "/*") bytes) (closed_comment (closed_length (drop 2 bytes)) bytes) (line_comment bytes) (Sound bytes)
    (λ h. closed_sound bytes (closed_length (drop 2 bytes)) bytes) (λ h. comment_of_sound bytes true (prefix_len (λ b. not (b == 10)) (drop 1 bytes)) bytes)

file_sound : (all : List ℕ) (n : ℕ) (name : List ℕ) → Sound all (file_piece n name)
file_sound all n name =
    let other = if◌then◌else◌ (begins (codes "\"cgra.h\"") name) (Token Cgra (n + 8)) (Nothing 0) in
    cond_both (begins (codes "<stdint.h>") name) (Token Stdint (n + 10)) other (Sound all) (λ h. λ e. no_word e)
    (λ h. cond_both (begins (codes "\"cgra.h\"") name) (Token Cgra (n + 8)) (Nothing 0) (Sound all) (λ x. λ e. no_word e) (λ x. tt))

directive_sound : (all : List ℕ) (n : ℕ) (word : List ℕ) → Sound all (directive_of n word)
directive_sound all n word =
    let defines = begins (codes "define") word && not (first_is is_word_byte (drop 6 word)) in
    cond_both (begins (codes "include") word) (include_piece n word) (if◌then◌else◌ defines (Token Define (n + 6)) (Nothing 0)) (Sound all)
    (λ h. file_sound all (n + 7 + space_length (drop 7 word)) (after_space (drop 7 word)))
    (λ h. cond_both defines (Token Define (n + 6)) (Nothing 0) (Sound all) (λ x. λ e. no_word e) (λ x. tt))

line_sound : (all : List ℕ) (line : Line) (bytes : List ℕ) → Sound all (directive_piece line bytes)
line_sound all Fresh bytes = directive_sound all (space_length bytes) (after_space bytes)
line_sound all Begun bytes = tt
line_sound all Directive bytes = tt

blank_sound : (all : List ℕ) (line : Line) (bytes : List ℕ) → Sound all (blank_piece line bytes)
blank_sound all Fresh bytes = tt
blank_sound all Begun bytes = tt
blank_sound all Directive bytes = cond_both (is_lone_return bytes) (Nothing 0) (Gap 0) (Sound all) (λ h. tt) (λ h. tt)

plain_sound : (line : Line) (bytes : List ℕ) → Sound bytes (plain_piece line bytes)
plain_sound line bytes =
    let b = slice_index bytes 0 in
    let three = if◌then◌else◌ (b == 35) (directive_piece line (drop 1 bytes)) (token_piece bytes) in
    let comments = begins (codes "/*") bytes || begins (codes "//") bytes in
    let two = if◌then◌else◌ comments (comment_piece bytes) three in
    let one = if◌then◌else◌ (is_blank b) (blank_piece line bytes) two in
    cond_both (b == 10) LineFeed one (Sound bytes) (λ h. tt)
    (λ h. cond_both (is_blank b) (blank_piece line bytes) two (Sound bytes) (λ x. blank_sound bytes line bytes)
    (λ x. cond_both comments (comment_piece bytes) three (Sound bytes) (λ y. comment_sound bytes)
    (λ y. cond_both (b == 35) (directive_piece line (drop 1 bytes)) (token_piece bytes) (Sound bytes) (λ z. line_sound bytes line (drop 1 bytes)) (λ z. token_sound bytes))))

piece_sound : (line : Line) (bytes : List ℕ) → Sound bytes (piece_of line bytes)
piece_sound line bytes = cond_both (is_splice bytes) (Nothing 0) (plain_piece line bytes) (Sound bytes) (λ h. tt) (λ h. plain_sound line bytes)

-- a word is a text of ASCII
pub word_ascii : (line : Line) (bytes : List ℕ) (kind : Kind) (n : ℕ) → piece_of line bytes ≡ Token kind n → is_word kind ≡ true → IsAscii (take (n + 1) bytes)
word_ascii line bytes kind n e = subst (λ (x : Piece). Sound bytes x) e (piece_sound line bytes)

-- a result that is no error
pub is_ok_since : {T E : Type 0} (r : Result T E) (P : T → Type 0) (Q : E → Type 0) → ((e : E) → Q e → ⊥) → MatchResult r P Q → IsOk r
is_ok_since (Ok x) P Q no_error h = refl
is_ok_since (Err e) P Q no_error h = absurd (no_error e h)
