-- From the clauses of `table_from_slice` to the table that the bytes stand for, and from keys to members.
use Rattle.std.proofs.Common.{◌≡◌, ℕ, string_bytes, [], ◌∷◌, map, option_map, List, Bool, true, false, Option, Some, None, cond, refl, ap, ◌∙◌, IsUtf8}
use Rattle.std.specs.Str.{is_utf8}
use Rattle.std.specs.Map.{keys_of}
use Rattle.std.proofs.lemmas.Str.{IsUtf8-from_is_utf8, is_utf8-from_IsUtf8}
use Rattle.toml.specs.Data.{Data, Members, table}
use Rattle.toml.specs.Parse.{parse_document}
use Rattle.toml.specs.View.{items_of, members_view}
use Rattle.toml.proofs.Views.{Entry}
use Rattle.cg_toml.specs.Bytes.{table_of}
use Rattle.cg_toml.specs.Members.{listed, keys_in}

-- what was read of bytes is their table
pub table_of-read : (bytes : List ℕ) (ms : Members) → IsUtf8 bytes → parse_document bytes ≡ Some ms → table_of bytes ≡ Some (table ms)
unfolding table_of
table_of-read bytes ms utf8 is = ap (λ b. cond b (option_map table (parse_document bytes)) None) (is_utf8-from_IsUtf8 bytes utf8) ∙ ap (option_map table) is

by_text : (b : Bool) (o : Option Members) → (b ≡ true → o ≡ None) → cond b (option_map table o) None ≡ None
by_text true o h = ap (option_map table) (h refl)
by_text false o h = refl

-- bytes that are refused have no table
pub table_of-refused : (bytes : List ℕ) → (IsUtf8 bytes → parse_document bytes ≡ None) → table_of bytes ≡ None
unfolding table_of
table_of-refused bytes h = by_text (is_utf8 bytes) (parse_document bytes) (λ e. h (IsUtf8-from_is_utf8 bytes e))

-- items that values stand for, as a list
pub listed-items_of : (ds : List Data) → listed (items_of ds) ≡ ds
listed-items_of [] = refl
listed-items_of (d ∷ ds) = ap (λ xs. d ∷ xs) (listed-items_of ds)

-- the keys of a table's entries are those of its members
pub keys_in-members : (es : List Entry) → map string_bytes (keys_of es) ≡ keys_in (members_view es)
keys_in-members [] = refl
keys_in-members (e ∷ es) = ap (λ keys. string_bytes e.0 ∷ keys) (keys_in-members es)
