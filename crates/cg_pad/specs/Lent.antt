-- All words of a scratchpad, lent for changes.
use Rattle.std.specs.Prelude.{ℕ, List, ◌++◌, length, take, drop}

-- words written over a list, which keeps its length
abbrev pub overlaid : List ℕ → List ℕ → List ℕ
overlaid old new = take (length old) (new ++ drop (length new) old)
