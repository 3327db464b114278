-- The byte that is one token when doubled.
use Rattle.std.specs.Prelude.{ℕ, Option, Some}

-- =
abbrev pub double : Option ℕ
double = Some 61
