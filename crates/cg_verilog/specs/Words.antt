-- Tokens by their texts.
use Rattle.std.specs.Prelude.{ℕ, Bool, false, ◌&&◌, ◌||◌, not, List, [], ◌∷◌, codes, nat_eq}
use Rattle.std.specs.List.{list_all}
use Rattle.std.specs.Char.{is_ascii_digit}
use Rattle.std.specs.Cmp.Lexicographic.{pointwise}
use Rattle.cg_tokens.specs.Tokens.{is_letter}

-- whether two texts are equal
abbrev pub same : List ℕ → List ℕ → Bool
same s t = pointwise nat_eq s t

-- a letter, a digit or _
abbrev pub is_name_byte : ℕ → Bool
is_name_byte b = is_letter b || is_ascii_digit b

-- a letter or _, and then letters, digits and _
abbrev pub is_word : List ℕ → Bool
is_word [] = false
is_word (b ∷ bytes) = is_letter b && list_all is_name_byte bytes

-- reserved words, which are not names
abbrev pub is_reserved : List ℕ → Bool
is_reserved t = same t (codes "module") || same t (codes "input") || same t (codes "wire") || same t (codes "endmodule")

-- a word that may name a port, a net, a cell or a form
abbrev pub is_name : List ℕ → Bool
is_name t = is_word t && not (is_reserved t)
