-- Values over again, with digits of the turn's number in the form in which a kernel computes them.
use Rattle.std.specs.Prelude.{◌≡◌, ◌⊎◌, ℕ, ◌+◌, ◌/◌, ◌<◌, ◌≤◌, true, false, List, length, Option, None, slice_index}
use Rattle.cg_c_values.specs.declared.value.Value.{Value}
use Rattle.cg_c_values.specs.declared.value.Value.TheVariants.{Const, Quotient, Digit, Loaded}
use Rattle.cg_c_values.specs.Values.{Moment, Words, Fits, IsLoad, holds, value_at}
use Rattle.cg_c_quotients.specs.Quotients.{quotient_at}

-- the new value of a value
abbrev pub renamed : (map : List ℕ) → ℕ → ℕ
renamed map v = slice_index map v

-- the words of the old values, by those of the new ones
abbrev pub behind : Words → (map : List ℕ) → Words
behind E map v = E (renamed map v)

-- a guard that holds where the old one does, or always
abbrev pub IsGuardOf : List Value → (turns : ℕ) → (map : List ℕ) → (old new : Option ℕ) → Type 0
IsGuardOf values turns map old new =
    (x : Moment) (E : Words) → Fits values x E → x.turn < turns → holds (behind E map) old ≡ true → holds E new ≡ true

abbrev pub IsGuardBack : List Value → (turns : ℕ) → (map : List ℕ) → (old new : Option ℕ) → Type 0
IsGuardBack values turns map old new =
    (x : Moment) (E : Words) → Fits values x E → x.turn < turns → holds E new ≡ true → holds (behind E map) old ≡ true

-- the new guard holds only where the old one does, or the turn has the same load without a guard
abbrev pub MayAct : (old new : List Value) → (turns : ℕ) → (map : List ℕ) → (array version : ℕ) (guard : Option ℕ) (address : ℕ) → (guard' : Option ℕ) → Type 0
MayAct old new turns map array version guard address guard' =
    IsGuardBack new turns map guard guard'
    ⊎ ((v : ℕ) × (v < length old) × (value_at old v ≡ Loaded array version None address))

-- what has become of a load: a load of the same array, after as many stores, at the new address, that acts at least where
-- the old one does and, unless a load at the old address acts always, nowhere else; or a constant, where the old one
-- never acts
unfoldable pub IsLoadOf : (old new : List Value) → (turns : ℕ) → (map : List ℕ) → (array version : ℕ) (guard : Option ℕ) (address : ℕ) → Value → Type 0
IsLoadOf old new turns map array version guard address (Loaded array' version' guard' address') =
    (array' ≡ array) × (version' ≡ version) × (address' ≡ renamed map address) × IsGuardOf new turns map guard guard'
    × MayAct old new turns map array version guard address guard'
IsLoadOf old new turns map array version guard address (Const word) =
    (x : Moment) (E : Words) → Fits new x E → x.turn < turns → holds (behind E map) guard ≡ false
IsLoadOf old new turns map array version guard address _ = ⊥

-- the values that have nodes: a digit of the turn's number is the lowest one of radix 3, and a quotient is one that the
-- recurrence over two turns gives
abbrev pub IsForm : (turns : ℕ) → Value → Type 0
IsForm turns (Digit divisor radix) = (divisor ≡ 1) × (radix ≡ 3)
IsForm turns (Quotient divisor) = (t : ℕ) → t < turns → quotient_at divisor (t + 2) ≡ t / divisor
IsForm turns _ = Unit {0}

-- each value has a new one: words that fit the new ones are words of the old ones, in each of `turns` turns
pub record Renames (old new : List Value) (turns : ℕ) (map : List ℕ) : Type 0 where
  pub long : length map ≡ length old
  pub within : (v : ℕ) → v < length old → renamed map v < length new
  pub fits : (x : Moment) (E : Words) → x.turn < turns → Fits new x E → Fits old x (behind E map)
  pub loads : (v array version address : ℕ) (guard : Option ℕ) → v < length old → value_at old v ≡ Loaded array version guard address →
      IsLoadOf old new turns map array version guard address (value_at new (renamed map v))
  pub forms : (v : ℕ) → v < length new → IsForm turns (value_at new v)
  -- each load up to a new value was made of an old load up to its old value
  pub made : (u w : ℕ) → w < length old → u ≤ renamed map w → IsLoad (value_at new u) → (v : ℕ) × (v ≤ w) × IsLoad (value_at old v) × (renamed map v ≡ u)
