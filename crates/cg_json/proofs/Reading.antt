-- From the clauses of `Value::from_slice` to the value that the bytes stand for, and from keys to members.
use Rattle.std.proofs.Common.{◌≡◌, ℕ, string_bytes, [], ◌∷◌, map, List, Bool, true, false, Option, Some, None, cond, refl, ap, ◌∙◌, IsUtf8}
use Rattle.std.specs.Str.{is_utf8}
use Rattle.std.specs.Map.{keys_of}
use Rattle.std.proofs.lemmas.Str.{IsUtf8-from_is_utf8, is_utf8-from_IsUtf8}
use Rattle.serde_json.specs.Data.{Data}
use Rattle.serde_json.specs.Read.{read}
use Rattle.serde_json.specs.View.{items_of, members_view}
use Rattle.serde_json.proofs.Views.{Entry}
use Rattle.cg_json.specs.Bytes.{value_of}
use Rattle.cg_json.specs.Members.{listed, keys_in}

-- what was read of bytes is their value
pub value_of-read : (bytes : List ℕ) (d : Data) → IsUtf8 bytes → read bytes ≡ Some d → value_of bytes ≡ Some d
unfolding value_of
value_of-read bytes d utf8 is = ap (λ b. cond b (read bytes) None) (is_utf8-from_IsUtf8 bytes utf8) ∙ is

by_text : (b : Bool) (o : Option Data) → (b ≡ true → o ≡ None) → cond b o None ≡ None
by_text true o h = h refl
by_text false o h = refl

-- bytes that are refused have no value
pub value_of-refused : (bytes : List ℕ) → (IsUtf8 bytes → read bytes ≡ None) → value_of bytes ≡ None
unfolding value_of
value_of-refused bytes h = by_text (is_utf8 bytes) (read bytes) (λ e. h (IsUtf8-from_is_utf8 bytes e))

-- items that values stand for, as a list
pub listed-items_of : (ds : List Data) → listed (items_of ds) ≡ ds
listed-items_of [] = refl
listed-items_of (d ∷ ds) = ap (λ xs. d ∷ xs) (listed-items_of ds)

-- the keys of an object's entries are those of its members
pub keys_in-members : (es : List Entry) → map string_bytes (keys_of es) ≡ keys_in (members_view es)
keys_in-members [] = refl
keys_in-members (e ∷ es) = ap (λ keys. string_bytes e.0 ∷ keys) (keys_in-members es)
