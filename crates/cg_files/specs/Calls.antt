-- The calls of a store or a sink in memory, which are numbered from 1.
use Rattle.std.specs.Prelude.{ℕ, ◌+◌, ◌-◌, ◌^◌, min, List, Contains}

-- the number of the call after `made` calls; the counter stays at its greatest value
abbrev pub next_call : ℕ → ℕ
next_call made = min (made + 1) (2 ^ 64 - 1)

-- the call after `made` calls is one of those that are to fail
abbrev pub IsListed : List ℕ → ℕ → Type 0
IsListed failing made = Contains failing (next_call made)
