-- Numbers as bits, the most significant bit first.
use Rattle.std.specs.Prelude.{ℕ, zero, suc, ◌+◌, ◌*◌, ◌/◌, ◌%◌, eqb, Bool, true, false, List, [], ◌∷◌, ◌++◌, take, drop}
use Rattle.std.specs.List.{flat_map}

-- a bit as a number
abbrev pub digit : Bool → ℕ
digit true = 1
digit false = 0

-- the w lowest bits of a number
unfoldable pub bits_of : ℕ → ℕ → List Bool
bits_of zero n = []
bits_of (suc w) n = bits_of w (n / 2) ++ eqb (n % 2) 1 ∷ []

-- the number whose upper bits are those of n and whose lower ones follow
unfoldable pub number_after : ℕ → List Bool → ℕ
number_after n [] = n
number_after n (b ∷ bs) = number_after (n * 2 + digit b) bs

-- the number of a list of bits
abbrev pub number : List Bool → ℕ
number bs = number_after 0 bs

-- the number of the w bits at a place
abbrev pub number_at : List Bool → ℕ → ℕ → ℕ
number_at bits place w = number (take w (drop place bits))

-- the bits of bytes, one byte after the other
abbrev pub bits_of_bytes : List ℕ → List Bool
bits_of_bytes bytes = flat_map (bits_of 8) bytes
