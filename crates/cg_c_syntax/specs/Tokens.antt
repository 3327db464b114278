-- The tokens of bytes, each with the place where it begins.
use Rattle.std.specs.Prelude.{ℕ, zero, suc, ◌+◌, Bool, true, false, List, [], ◌∷◌, ◌++◌, length, take, drop}
use Rattle.cg_c_syntax.specs.declared.token.Kind.{Kind}
use Rattle.cg_c_syntax.specs.declared.token.Kind.TheVariants.{Stdint, Cgra, Define, LineEnd, TextEnd, Stray}
use Rattle.cg_c_syntax.specs.declared.token.Line.{Line}
use Rattle.cg_c_syntax.specs.declared.token.Line.TheVariants.{Fresh, Begun, Directive}
use Rattle.cg_c_syntax.specs.declared.token.Piece.{Piece}
use Rattle.cg_c_syntax.specs.declared.token.Piece.TheVariants as pieces
use Rattle.cg_c_syntax.specs.Pieces.{piece_of}

-- a token: its kind, its bytes, and where it begins
pub record Token : Type 0 where
  pub kind : Kind
  pub text : List ℕ
  pub place : ℕ

-- a token of no bytes
abbrev pub empty : Kind → ℕ → Token
empty kind place = record { kind = kind; text = []; place = place }

-- the end of a directive's line
abbrev pub line_end : Line → ℕ → List Token
line_end Fresh place = []
line_end Begun place = []
line_end Directive place = empty LineEnd place ∷ []

-- what is known of a line after a token of the kind
abbrev pub line_after : Kind → Line → Line
line_after Stdint line = Directive
line_after Cgra line = Directive
line_after Define line = Directive
line_after kind Fresh = Begun
line_after kind Begun = Begun
line_after kind Directive = Directive

-- the tokens from a piece on, at the front of bytes that begin with b, where `on` has those after it
abbrev pub from_piece : Piece → Line → ℕ → ℕ → List ℕ → (Line → ℕ → List Token) → List Token
from_piece (pieces.Gap n) line place b bytes on = on line n
from_piece pieces.LineFeed line place b bytes on = line_end line place ++ on Fresh 0
from_piece (pieces.Token kind n) line place b bytes on = record { kind = kind; text = b ∷ take n bytes; place = place } ∷ on (line_after kind line) n
from_piece (pieces.Nothing n) line place b bytes on = empty Stray (place + n) ∷ []

-- the tokens of the bytes from a place on, of which the first few belong to the piece before
abbrev pub tokens_from : Line → ℕ → ℕ → List ℕ → List Token
tokens_from line inside place [] = line_end line place ++ empty TextEnd place ∷ []
tokens_from line (suc inside) place (b ∷ bytes) = tokens_from line inside (place + 1) bytes
tokens_from line zero place (b ∷ bytes) = from_piece (piece_of line (b ∷ bytes)) line place b bytes (λ after n. tokens_from after n (place + 1) bytes)

-- the tokens of a text: the last one is its end, or the first byte at which no token begins
abbrev pub tokens_of : List ℕ → List Token
tokens_of bytes = tokens_from Fresh 0 0 bytes

-- the tokens from a place on that no earlier piece reaches
abbrev pub tokens_at : List ℕ → Line → ℕ → List Token
tokens_at bytes line place = tokens_from line 0 place (drop place bytes)

-- the kind of token that none follows
abbrev pub is_last : Kind → Bool
is_last TextEnd = true
is_last Stray = true
is_last _ = false

-- the place after a token
abbrev pub end_of : Token → ℕ
end_of t = t.place + length t.text
