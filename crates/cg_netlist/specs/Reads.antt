-- The results of reading parts of a name.
use Rattle.std.specs.Prelude.{◌≡◌, ◌≢◌, ℕ, ◌+◌, ◌^◌, ◌<◌, ◌≤◌, false, List, ◌∷◌, ◌++◌, drop, decimal, Option, Some, None}
use Rattle.std.specs.Fmt.{digits}

-- the rest of the text after the prefix, where the text begins with it
abbrev pub IsAfter : List ℕ → List ℕ → Option (List ℕ) → Type 0
IsAfter text prefix None = (rest : List ℕ) → text ≢ prefix ++ rest
IsAfter text prefix (Some rest) = text ≡ prefix ++ rest

-- the representation of a number of 32 bits is read as that number
abbrev pub Parses : ℕ → List ℕ → Option ℕ → Type 0
Parses base text found = (n : ℕ) → n < 2 ^ 32 → text ≡ digits base false n → found ≡ Some n

-- the number of 32 bits that the text writes
abbrev pub IsWritten : ℕ → List ℕ → Option ℕ → Type 0
IsWritten base text None = (n : ℕ) → n < 2 ^ 32 → text ≢ digits base false n
IsWritten base text (Some n) = (n < 2 ^ 32) × (text ≡ digits base false n)

-- the number that the text writes in base 10, if it is between 1 and this maximum
abbrev pub IsCount : ℕ → List ℕ → Option ℕ → Type 0
IsCount most text None = (n : ℕ) → 0 < n → n ≤ most → text ≢ decimal n
IsCount most text (Some n) = (0 < n) × (n ≤ most) × (text ≡ decimal n)

-- the digit at the beginning of the text, if a `_` follows it and it is at most this number
abbrev pub IsDigit : ℕ → List ℕ → Option ℕ → Type 0
IsDigit most text None = (d : ℕ) (rest : List ℕ) → d ≤ most → text ≢ (48 + d) ∷ 95 ∷ rest
IsDigit most text (Some d) = (d ≤ most) × (text ≡ (48 + d) ∷ 95 ∷ drop 2 text)
