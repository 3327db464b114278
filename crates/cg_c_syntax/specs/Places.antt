-- Places of a text as its reader counts them.
use Rattle.std.specs.Prelude.{ℕ, suc, ◌==◌, not, List, take, reverse, count_by}
use Rattle.std.specs.List.{prefix_len}

-- the line after these bytes: one more than their line feeds
abbrev pub line_after : List ℕ → ℕ
line_after bytes = suc (count_by (λ b. b == 10) bytes)

-- the column after these bytes: one more than the bytes at their end that are no line feeds
abbrev pub column_after : List ℕ → ℕ
column_after bytes = suc (prefix_len (λ b. not (b == 10)) (reverse bytes))

-- the line of a place, from 1
abbrev pub line_of : List ℕ → ℕ → ℕ
line_of bytes place = line_after (take place bytes)

-- the column of a place, in bytes from 1
abbrev pub column_of : List ℕ → ℕ → ℕ
column_of bytes place = column_after (take place bytes)
