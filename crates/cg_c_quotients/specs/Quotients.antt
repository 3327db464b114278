-- How the number t of a turn, divided by a constant, is computed with operations on words of 32 bits.
use Rattle.std.specs.Prelude.{◌≡◌, ◌≢◌, ℕ, zero, suc, ◌+◌, ◌-◌, ◌*◌, ◌/◌, ◌^◌, ◌<◌, ◌≤◌}
use Rattle.std.specs.Int.{div_ceil}
use Rattle.cg_word.specs.declared.op.Op.TheVariants.{Add, Sub, Mul, And, Shr, Lts, Select}
use Rattle.cg_word.specs.Word.{apply_of, words}
use Rattle.cg_c_quotients.specs.declared.quotients.Quotient.{Quotient}
use Rattle.cg_c_quotients.specs.declared.quotients.Quotient.TheVariants.{Turn, Shift, Product, Recurrence}

-- ---- the recurrence over two turns: index i stands for turn i - 2, with the initial words at 0 and 1

-- 1 if the remainder's word of two turns before is -2 or -1, as the remainder has begun again since; else 0
abbrev pub wraps : ℕ → ℕ
wraps before = apply_of Lts (words - 3) before 0

-- the remainder's word two turns after `before`: 2 more, and less the divisor if it has begun again
abbrev pub remainder_after : (divisor before : ℕ) → ℕ
remainder_after divisor before =
    apply_of Select (wraps before) (apply_of Add before (apply_of Sub 2 divisor 0) 0) (apply_of Add before 2 0)

-- the remainder's word: t % divisor - divisor, as a word
unfoldable pub remainder_at : (divisor i : ℕ) → ℕ
remainder_at divisor zero = words - 2
remainder_at divisor (suc zero) = words - 1
remainder_at divisor (suc (suc i)) = remainder_after divisor (remainder_at divisor i)

-- the quotient's word: t / divisor, which grows by 1 each time the remainder begins again
unfoldable pub quotient_at : (divisor i : ℕ) → ℕ
quotient_at divisor zero = words - 1
quotient_at divisor (suc zero) = words - 1
quotient_at divisor (suc (suc i)) = apply_of Add (quotient_at divisor i) (wraps (remainder_at divisor i)) 0

-- ---- the forms

-- the word that a form computes at turn t
unfoldable pub word_at : Quotient → (divisor t : ℕ) → ℕ
word_at Turn divisor t = t
word_at (Shift bits) divisor t = apply_of Shr t bits 0
word_at (Product factor shift) divisor t = apply_of Shr (apply_of Mul t factor 0) shift 0
word_at Recurrence divisor t = quotient_at divisor (t + 2)

-- ---- which form is chosen

-- the least number whose product with the divisor is at least 2 ^ shift
abbrev pub factor_for : (divisor shift : ℕ) → ℕ
factor_for divisor shift = div_ceil (2 ^ shift) divisor

-- by how much that product exceeds 2 ^ shift
abbrev pub excess_for : (divisor shift : ℕ) → ℕ
excess_for divisor shift = factor_for divisor shift * divisor - 2 ^ shift

-- at each turn the product with the factor is a word, and the excess adds up to less than one factor
pub record Passes (divisor turns shift : ℕ) : Type 0 where
  pub exact : ((turns - 1) / divisor + 1) * excess_for divisor shift < factor_for divisor shift
  pub is_word : (turns - 1) * factor_for divisor shift < words

abbrev pub NonePassesBelow : (divisor turns limit : ℕ) → Type 0
NonePassesBelow divisor turns limit = (shift : ℕ) → shift < limit → ¬ Passes divisor turns shift

abbrev pub IsNoPower : ℕ → Type 0
IsNoPower divisor = (bits : ℕ) → divisor ≢ 2 ^ bits

-- what is known of a product's factor and shift
pub record IsLeastProduct (divisor turns factor shift : ℕ) : Type 0 where
  pub factor_is : factor ≡ factor_for divisor shift
  pub within : shift < 32
  pub passes : Passes divisor turns shift
  pub least : NonePassesBelow divisor turns shift

-- the form that is chosen: the turn itself, a shift, the product with the least shift that passes, or else the recurrence
unfoldable pub IsChoice : (divisor turns : ℕ) → Quotient → Type 0
IsChoice divisor turns Turn = divisor ≡ 1
IsChoice divisor turns (Shift bits) = (1 ≤ bits) × (divisor ≡ 2 ^ bits)
IsChoice divisor turns (Product factor shift) = IsNoPower divisor × IsLeastProduct divisor turns factor shift
IsChoice divisor turns Recurrence = IsNoPower divisor × NonePassesBelow divisor turns 32

-- ---- digits

-- the word that is left of a quotient's word under a mask
abbrev pub masked : (word mask : ℕ) → ℕ
masked word mask = apply_of And word mask 0
