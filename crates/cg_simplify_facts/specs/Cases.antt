-- The cases of the identities: what is seen of two operands, in terms of the number p of the one that is the value.
use Rattle.std.specs.Prelude.{◌≡◌, ℕ, ◌+◌, ◌^◌, ◌<◌, ◌≤◌, ◌⊎◌, bit_and}

-- the operand that isn't p is w
abbrev pub IsBeside : ℕ → ℕ → ℕ → ℕ → Type 0
IsBeside w p x y = ((p ≡ 1) × (x ≡ w)) ⊎ ((p ≡ 0) × (y ≡ w))

-- the operand that isn't p is w, and operand p is 0 or 1
abbrev pub IsTruthBeside : ℕ → ℕ → ℕ → ℕ → Type 0
IsTruthBeside w p x y = ((p ≡ 1) × (x ≡ w) × (y ≤ 1)) ⊎ ((p ≡ 0) × (y ≡ w) × (x ≤ 1))

-- the operand that isn't p has each bit that operand p can have
abbrev pub IsUnmasked : ℕ → ℕ → ℕ → Type 0
IsUnmasked p x y = ((p ≡ 1) × (bit_and x y ≡ y)) ⊎ ((p ≡ 0) × (bit_and x y ≡ x))

-- what a guard x selects of y and z, p
abbrev pub IsSelected : ℕ → ℕ → ℕ → ℕ → Type 0
IsSelected p x y z = ((p ≡ 1) × (0 < x)) ⊎ (((p ≡ 2) × (x ≡ 0)) ⊎ (((p ≡ 1) × (y ≡ z)) ⊎ ((p ≡ 0) × (y ≡ 1) × (z ≡ 0) × (x ≤ 1))))

-- the cover of t: all bits up to its highest
pub record IsCover (t c : ℕ) : Type 0 where
  pub bits : ℕ
  pub few : bits ≤ 32
  pub power : c + 1 ≡ 2 ^ bits
  pub covers : t ≤ c
