-- The tokens of bytes, each with the place where it begins.
use Rattle.std.specs.Prelude.{ℕ, zero, suc, ◌+◌, Bool, false, ◌&&◌, ◌||◌, ◌==◌, Option, Some, None, List, [], ◌∷◌, length, map, take, drop, if◌then◌else◌}
use Rattle.std.specs.List.{prefix_len}
use Rattle.std.specs.Char.{is_ascii_alphabetic, is_ascii_digit}
use Rattle.cg_tokens.specs.declared.token.Kind.{Kind}
use Rattle.cg_tokens.specs.declared.token.Kind.TheVariants.{Word, Number, Mark}
use Rattle.cg_tokens.specs.declared.token.Token.{Token}

-- a token's bytes, and where it begins
pub record Placed : Type 0 where
  pub text : List ℕ
  pub place : ℕ

-- a space, a tab, a carriage return or a line feed
abbrev pub is_blank : ℕ → Bool
is_blank b = b == 32 || b == 9 || b == 13 || b == 10

-- a letter or _
abbrev pub is_letter : ℕ → Bool
is_letter b = is_ascii_alphabetic b || b == 95

-- the kind of a token, determined by its first byte
abbrev pub kind_of : ℕ → Kind
kind_of b = if is_letter b then Word else (if is_ascii_digit b then Number else Mark)

-- whether a token of the kind continues with a byte
abbrev pub goes_on : Kind → ℕ → Bool
goes_on Word b = is_letter b || is_ascii_digit b
goes_on Number b = is_ascii_digit b
goes_on Mark b = false

-- whether two of the byte form one token, which a language may allow for one byte
abbrev pub is_double : Option ℕ → ℕ → Bool
is_double None b = false
is_double (Some d) b = b == d

-- whether the bytes begin with b
abbrev pub is_next : ℕ → List ℕ → Bool
is_next b [] = false
is_next b (c ∷ bytes) = c == b

-- the number of bytes that a token has after its first: one where two of the byte form one token, and else all that
-- continue it
abbrev pub more_of : Option ℕ → ℕ → List ℕ → ℕ
more_of double b bytes = if is_double double b && is_next b bytes then 1 else prefix_len (goes_on (kind_of b)) bytes

-- the token at the front of bytes, which begin with b
abbrev pub first_token : Option ℕ → ℕ → List ℕ → ℕ → Placed
first_token double b bytes place = record { text = b ∷ take (more_of double b bytes) bytes; place = place }

-- the tokens of the bytes from a place on, of which the first few belong to the token before
abbrev pub tokens_from : Option ℕ → ℕ → ℕ → List ℕ → List Placed
tokens_from double inside place [] = []
tokens_from double (suc inside) place (b ∷ bytes) = tokens_from double inside (place + 1) bytes
tokens_from double zero place (b ∷ bytes) =
    if is_blank b then tokens_from double 0 (place + 1) bytes
    else (first_token double b bytes place ∷ tokens_from double (more_of double b bytes) (place + 1) bytes)

-- the tokens of the bytes
abbrev pub tokens_of : Option ℕ → List ℕ → List Placed
tokens_of double bytes = tokens_from double 0 0 bytes

-- the tokens of the bytes from a place on that no earlier token reaches
abbrev pub tokens_at : Option ℕ → List ℕ → ℕ → List Placed
tokens_at double bytes place = tokens_from double 0 place (drop place bytes)

-- the place after a token
abbrev pub end_of : Placed → ℕ
end_of t = t.place + length t.text

-- the token that a value of the program denotes
abbrev pub seen : Token → Placed
seen t = record { text = t.text.now; place = t.place }

-- the texts of tokens
abbrev pub texts : List Placed → List (List ℕ)
texts tokens = map (λ (t : Placed). t.text) tokens

-- the place of the first token, or the end
abbrev pub place_of : ℕ → List Placed → ℕ
place_of end [] = end
place_of end (t ∷ rest) = t.place
