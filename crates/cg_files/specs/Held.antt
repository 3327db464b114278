-- What a store holds and a sink has taken, where they reveal it.
use Rattle.std.specs.Prelude.{◌≡◌, ◌≢◌, ℕ, ◌<◌, ◌++◌, List, length, take, Option, Some, None, IsSomeAnd}

-- the bytes held under each name; `None` where the store doesn't reveal them
abbrev pub Held : Type 0
Held = Option (List ℕ → Option (List ℕ))

-- exactly these bytes are held under the name, as far as the store reveals it
abbrev pub Holds : Held → List ℕ → List ℕ → Type 0
Holds None name bytes = Unit {0}
Holds (Some files) name bytes = files name ≡ Some bytes

-- the store reveals its contents, and holds nothing under the name
abbrev pub IsMissing : Held → List ℕ → Type 0
IsMissing None name = ⊥
IsMissing (Some files) name = files name ≡ None

-- more bytes than the limit are held under the name, as far as the store reveals it
abbrev pub IsLonger : Held → List ℕ → ℕ → Type 0
IsLonger None name limit = Unit {0}
IsLonger (Some files) name limit = IsSomeAnd (files name) (λ bytes. limit < length bytes)

-- the store reveals that more bytes than the limit are held under the name
abbrev pub TellsLonger : Held → List ℕ → ℕ → Type 0
TellsLonger None name limit = ⊥
TellsLonger (Some files) name limit = IsSomeAnd (files name) (λ bytes. limit < length bytes)

-- every name except this one holds what it held
abbrev pub OthersStay : Held → Held → List ℕ → Type 0
OthersStay (Some old) (Some new) name = (other : List ℕ) → other ≢ name → new other ≡ old other
OthersStay None None name = Unit {0}
OthersStay _ _ name = ⊥

-- exactly these bytes were appended to the old ones
abbrev pub Appends : Option (List ℕ) → List ℕ → Option (List ℕ) → Type 0
Appends (Some old) bytes (Some new) = new ≡ old ++ bytes
Appends None bytes None = Unit {0}
Appends _ bytes _ = ⊥

-- a prefix of these bytes, possibly none or all, was appended to the old ones
abbrev pub AppendsSome : Option (List ℕ) → List ℕ → Option (List ℕ) → Type 0
AppendsSome (Some old) bytes (Some new) = (n : ℕ) × (new ≡ old ++ take n bytes)
AppendsSome None bytes None = Unit {0}
AppendsSome _ bytes _ = ⊥
