-- The least solution of a congruence in a range.
use Rattle.std.specs.Prelude.{◌≡◌, ℕ, ◌*◌, ◌%◌, ◌^◌, ◌<◌, ◌≤◌, ◌⊎◌}

-- x times the stride is delta, modulo 2^32
abbrev pub Solves : ℕ → ℕ → ℕ → Type 0
Solves stride delta x = (stride * x) % 2 ^ 32 ≡ delta

-- no number from `least` to below `most` solves it
abbrev pub HasNone : ℕ → ℕ → ℕ → ℕ → Type 0
HasNone stride delta least most = (x : ℕ) → least ≤ x → x < most → Solves stride delta x → ⊥

-- x is the least of these numbers that solves it
abbrev pub IsLeast : ℕ → ℕ → ℕ → ℕ → ℕ → Type 0
IsLeast stride delta least most x = (least ≤ x) × (x < most) × Solves stride delta x × HasNone stride delta least x

-- a stride is an odd number times 2 to the power `zeros`, and the odd number's inverse is known; or it is 0, and
-- `zeros` is 32
abbrev pub IsParted : ℕ → ℕ → ℕ → Type 0
IsParted stride zeros inverse =
    ((stride ≡ 0) × (zeros ≡ 32)) ⊎ ((odd : ℕ) × (stride ≡ odd * 2 ^ zeros) × (zeros < 32) × ((odd * inverse) % 2 ^ 32 ≡ 1))
