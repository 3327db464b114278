-- The fields of a text, which are separated by blanks. A # and what follows it in its line is a comment, and is in no
-- field.
use Rattle.std.specs.Prelude.{ℕ, zero, suc, ◌+◌, Bool, not, ◌||◌, ◌==◌, List, [], ◌∷◌, length, take, drop, if◌then◌else◌}
use Rattle.std.specs.List.{prefix_len}
use Rattle.cg_image_text.specs.declared.field.Piece.{Piece}

-- the bytes of a field, and the number of bytes before it
pub record Field : Type 0 where
  pub text : List ℕ
  pub place : ℕ

-- a space, a tab, a line feed or a carriage return
abbrev pub is_blank : ℕ → Bool
is_blank b = b == 32 || b == 9 || b == 10 || b == 13

-- a byte that belongs to a field where it isn't in a comment: neither a blank nor #
abbrev pub is_solid : ℕ → Bool
is_solid b = not (is_blank b || b == 35)

-- a byte with which a comment continues: any byte except a line feed
abbrev pub is_remark : ℕ → Bool
is_remark b = not (b == 10)

-- the number of bytes that belong to a comment after a byte outside fields: 0 unless that byte is #
abbrev pub remark_length : ℕ → List ℕ → ℕ
remark_length b bytes = if b == 35 then prefix_len is_remark bytes else 0

-- the field that begins with b, followed by the other bytes
abbrev pub first_field : ℕ → List ℕ → ℕ → Field
first_field b bytes place = record { text = b ∷ take (prefix_len is_solid bytes) bytes; place = place }

-- the fields of the bytes from a position on, of which the first few belong to the previous field or comment
abbrev pub fields_from : ℕ → ℕ → List ℕ → List Field
fields_from inside place [] = []
fields_from (suc inside) place (b ∷ bytes) = fields_from inside (place + 1) bytes
fields_from zero place (b ∷ bytes) =
    if is_solid b then (first_field b bytes place ∷ fields_from (prefix_len is_solid bytes) (place + 1) bytes)
    else fields_from (remark_length b bytes) (place + 1) bytes

-- the fields of the text from a position on, where no earlier field or comment reaches that position
abbrev pub fields_at : List ℕ → ℕ → List Field
fields_at text place = fields_from 0 place (drop place text)

-- the fields of the text
abbrev pub fields_of : List ℕ → List Field
fields_of text = fields_at text 0

-- the position after a field
abbrev pub end_of : Field → ℕ
end_of f = f.place + length f.text

-- the field that the program's value represents
abbrev pub seen : Piece → Field
seen p = record { text = p.text.now; place = p.place }
