-- Lists that are concatenations of parts.
use Rattle.std.specs.Prelude.{◌≡◌, ℕ, zero, suc, List, [], ◌++◌, drop}

-- the concatenation of the lists f 0, f 1, up to f (n - 1)
unfoldable pub joined : {X : Type 0} → (ℕ → List X) → ℕ → List X
joined f zero = []
joined f (suc n) = joined f n ++ f n

-- the list has this part at that position
abbrev pub Holds : {X : Type 0} → List X → ℕ → List X → Type 0
Holds {X} xs place part = (rest : List X) × (drop place xs ≡ part ++ rest)
