-- The names of nets, cells and forms are names.
use Rattle.std.proofs.Common.{◌≡◌, ℕ, zero, suc, ◌+◌, ◌/◌, ◌%◌, ◌<◌, ◌≤◌, ⊎_elim, Bool, true, false, ◌&&◌, ◌||◌, eqb, List, [], ◌∷◌, ◌++◌, refl, ap, sym, ◌∙◌, arith}
use Rattle.std.specs.Prelude.{codes, decimal, slice_index, nat_le}
use Rattle.std.specs.List.{list_all, range_with_len}
use Rattle.std.specs.Fmt.{digits, digits_onto, digit_glyph}
use Rattle.std.specs.Char.{is_ascii_digit}
use Rattle.std.specs.Str.{IsAscii}
use Rattle.std.proofs.lemmas.Bool.{and_parts, and_from, or_cases, cond_both, eqb-true, eqb-false, leb-true}
use Rattle.std.proofs.Common.{length}
use Rattle.cg_model.specs.Names.{within_name}
use Rattle.cg_tokens.specs.Tokens.{is_letter}
use Rattle.cg_verilog.specs.Words.{is_name, is_name_byte}
use Rattle.cg_netlist.specs.Forms.{Form, ContextForm, PreselectForm, MuxForm, RegisterForm, ZeroForm, UnitForm, form_name, hexadecimal, driver_port, argument_port}

-- all bytes go on a name
abbrev pub IsPlain : List ℕ → Type 0
IsPlain name = list_all is_name_byte name ≡ true

pub plain_append : (xs ys : List ℕ) → IsPlain xs → IsPlain ys → IsPlain (xs ++ ys)
plain_append [] ys p q = q
plain_append (x ∷ xs) ys p q =
    let parts = and_parts (is_name_byte x) (list_all is_name_byte xs) p in
    and_from (is_name_byte x) (list_all is_name_byte (xs ++ ys)) parts.0 (plain_append xs ys parts.1 q)

-- ---- the bytes of the model's names

-- a number in a range of numbers that all pass passes
passes_in : (test : ℕ → Bool) (a n d : ℕ) → list_all test (range_with_len a n) ≡ true → a ≤ d → d < a + n → test d ≡ true
passes_in test a zero d all low high = absurd (omega arith)
passes_in test a (suc n) d all low high =
    let parts = and_parts (test a) (list_all test (range_with_len (a + 1) n)) all in
    cond_both (eqb a d) true false (λ b. test d ≡ true) (λ e. ap test (sym (eqb-true a d e)) ∙ parts.0)
    (λ e. passes_in test (a + 1) n d parts.1 (let apart = eqb-false a d e in omega arith) (omega arith))

regroup : (a b c d : Bool) → ((a || (b || c)) || d) ≡ true → (((a || b) || c) || d) ≡ true
regroup true b c d h = refl
regroup false b c d h = h

byte : (b : ℕ) → within_name b ≡ true → is_name_byte b ≡ true
byte b h = regroup (nat_le 65 b && nat_le b 90) (nat_le 97 b && nat_le b 122) (eqb b 95) (nat_le 48 b && nat_le b 57) h

pub plain_from : (name : List ℕ) → ((k : ℕ) → k < length name → within_name (slice_index name k) ≡ true) → IsPlain name
plain_from [] each = refl
plain_from (x ∷ xs) each =
    and_from (is_name_byte x) (list_all is_name_byte xs) (byte x (each 0 (omega arith))) (plain_from xs (λ k h. each (suc k) (omega arith)))

-- ---- numbers

glyph : (d : ℕ) → d < 16 → is_name_byte (digit_glyph false d) ≡ true
glyph d low = passes_in (λ n. is_name_byte (digit_glyph false n)) 0 16 d refl (omega arith) low

onto : (k base n : ℕ) (rest : List ℕ) → 0 < base → base ≤ 16 → IsPlain rest → IsPlain (digits_onto k base false n rest)
onto zero base n rest some few plain = plain
onto (suc k) base n rest some few plain =
    let last : is_name_byte (digit_glyph false (n % base)) ≡ true = glyph (n % base) (omega arith) in
    let more : IsPlain (digit_glyph false (n % base) ∷ rest) = and_from (is_name_byte (digit_glyph false (n % base))) (list_all is_name_byte rest) last plain in
    cond_both (eqb (n / base) 0) (digit_glyph false (n % base) ∷ rest) (digits_onto k base false (n / base) (digit_glyph false (n % base) ∷ rest)) IsPlain
    (λ e. more) (λ e. onto k base (n / base) (digit_glyph false (n % base) ∷ rest) some few more)

pub plain_digits : (base n : ℕ) → 0 < base → base ≤ 16 → IsPlain (digits base false n)
unfolding digits
plain_digits base n some few = onto 64 base n [] some few refl

pub plain_decimal : (n : ℕ) → IsPlain (decimal n)
plain_decimal n = plain_digits 10 n (omega arith) (omega arith)

pub plain_hexadecimal : (n : ℕ) → IsPlain (hexadecimal n)
plain_hexadecimal n = plain_digits 16 n (omega arith) (omega arith)

-- ---- they are texts of ASCII

low_in : (low high b : ℕ) → high < 128 → (nat_le low b && nat_le b high) ≡ true → b < 128
low_in low high b h e = let most = leb-true b high (and_parts (nat_le low b) (nat_le b high) e).1 in omega (arith, most)

letter_low : (b : ℕ) → is_letter b ≡ true → b < 128
letter_low b e =
    ⊎_elim
    (λ x. ⊎_elim (λ y. low_in 65 90 b (omega arith) y) (λ y. low_in 97 122 b (omega arith) y) (or_cases (nat_le 65 b && nat_le b 90) (nat_le 97 b && nat_le b 122) x))
    (λ x. let is = eqb-true b 95 x in omega (arith, is))
    (or_cases ((nat_le 65 b && nat_le b 90) || (nat_le 97 b && nat_le b 122)) (eqb b 95) e)

byte_low : (b : ℕ) → is_name_byte b ≡ true → b < 128
byte_low b e =
    ⊎_elim (λ x. letter_low b x) (λ x. low_in 48 57 b (omega arith) x) (or_cases (is_letter b) (is_ascii_digit b) e)

pub plain_ascii : (bs : List ℕ) → IsPlain bs → IsAscii bs
plain_ascii [] h i = omega arith
plain_ascii (b ∷ bs) h zero = byte_low b (and_parts (is_name_byte b) (list_all is_name_byte bs) h).0
plain_ascii (b ∷ bs) h (suc i) = plain_ascii bs (and_parts (is_name_byte b) (list_all is_name_byte bs) h).1 i

-- ---- names

and_true : (b : Bool) → b ≡ true → (b && true) ≡ true
and_true b e = ap (λ v. v && true) e

-- a name of a net or a cell
pub word_name : (name : List ℕ) → IsPlain name → is_name (codes "n_" ++ name) ≡ true
word_name name plain = and_true (list_all is_name_byte name) plain

pub select_name : (name : List ℕ) → IsPlain name → is_name (codes "s_" ++ name) ≡ true
select_name name plain = and_true (list_all is_name_byte name) plain

pub context_name : (name : List ℕ) → IsPlain name → is_name (codes "c_" ++ name) ≡ true
context_name name plain = and_true (list_all is_name_byte name) plain

pub preselect_name : (name : List ℕ) → IsPlain name → is_name (codes "p_" ++ name) ≡ true
preselect_name name plain = and_true (list_all is_name_byte name) plain

pub mux_name : (name : List ℕ) → IsPlain name → is_name (codes "m_" ++ name) ≡ true
mux_name name plain = and_true (list_all is_name_byte name) plain

pub register_name : (name : List ℕ) → IsPlain name → is_name (codes "r_" ++ name) ≡ true
register_name name plain = and_true (list_all is_name_byte name) plain

pub zero_name : (name : List ℕ) → IsPlain name → is_name (codes "z_" ++ name) ≡ true
zero_name name plain = and_true (list_all is_name_byte name) plain

pub unit_name : (name : List ℕ) → IsPlain name → is_name (codes "u_" ++ name) ≡ true
unit_name name plain = and_true (list_all is_name_byte name) plain

-- the name of a form
pub form_name_is : (f : Form) → is_name (form_name f) ≡ true
form_name_is (ContextForm w) = and_true (list_all is_name_byte (decimal w)) (plain_decimal w)
form_name_is (PreselectForm w) = and_true (list_all is_name_byte (decimal w)) (plain_decimal w)
form_name_is (MuxForm k) = and_true (list_all is_name_byte (decimal k)) (plain_decimal k)
form_name_is (RegisterForm k) = and_true (list_all is_name_byte (decimal k)) (plain_decimal k)
form_name_is ZeroForm = refl
form_name_is (UnitForm p l h) =
    and_true (list_all is_name_byte (decimal p ++ (codes "_" ++ (decimal l ++ (codes "_" ++ hexadecimal h)))))
    (plain_append (decimal p) (codes "_" ++ (decimal l ++ (codes "_" ++ hexadecimal h))) (plain_decimal p)
    (plain_append (decimal l) (codes "_" ++ hexadecimal h) (plain_decimal l) (plain_hexadecimal h)))

-- the port of a driver, and that of an argument
pub driver_port_is : (k : ℕ) → is_name (driver_port k) ≡ true
driver_port_is k = and_true (list_all is_name_byte (decimal k)) (plain_decimal k)

pub argument_port_is : (p : ℕ) → p < 3 → is_name (argument_port p) ≡ true
argument_port_is p low = passes_in (λ n. is_name (argument_port n)) 0 3 p refl (omega arith) low
