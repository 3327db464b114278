-- Names are texts of ASCII.
use Rattle.std.proofs.Common.{◌≡◌, ℕ, true, List, [], ◌∷◌, refl}
use Rattle.std.specs.Prelude.{not}
use Rattle.std.specs.List.{list_all}
use Rattle.std.specs.Char.{is_ascii_digit}
use Rattle.std.specs.Str.{IsUtf8}
use Rattle.std.proofs.lemmas.Bool.{and_parts, and_from, or_left}
use Rattle.std.proofs.lemmas.Str.{IsUtf8-from_ascii}
use Rattle.cg_tokens.specs.Tokens.{is_letter}
use Rattle.cg_verilog.specs.Words.{is_name, is_name_byte, is_word, is_reserved}
use Rattle.cg_netlist.proofs.Letters.{IsPlain, plain_ascii}

word_plain : (bs : List ℕ) → is_word bs ≡ true → IsPlain bs
word_plain [] e = refl
word_plain (b ∷ bs) e =
    let both = and_parts (is_letter b) (list_all is_name_byte bs) e in
    and_from (is_name_byte b) (list_all is_name_byte bs) (or_left (is_letter b) (is_ascii_digit b) both.0) both.1

-- a name is a text
pub name_utf8 : (bs : List ℕ) → is_name bs ≡ true → IsUtf8 bs
name_utf8 bs e = IsUtf8-from_ascii bs (plain_ascii bs (word_plain bs (and_parts (is_word bs) (not (is_reserved bs)) e).0))
