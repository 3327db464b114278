-- Pieces that are within the bytes at whose front they stand.
use Rattle.std.specs.Prelude.{◌≡◌, ℕ, ◌+◌, ◌<◌, false, Option, Some, None}
use Rattle.cg_c_syntax.specs.declared.token.Piece.{Piece}
use Rattle.cg_c_syntax.specs.declared.token.Piece.TheVariants.{Gap, LineFeed, Token, Nothing}
use Rattle.cg_c_syntax.specs.Tokens.{is_last}

-- the piece is within `size` bytes, and a token is not the last one
abbrev pub IsWithin : ℕ → Piece → Type 0
IsWithin size (Gap n) = n < size
IsWithin size LineFeed = Unit {0}
IsWithin size (Token kind n) = (n < size) × (is_last kind ≡ false)
IsWithin size (Nothing n) = n < size

-- a number of bytes counted from `before` bytes earlier
abbrev pub further : ℕ → Option ℕ → Option ℕ
further before None = None
further before (Some n) = Some (before + n)
