-- What holds of each list of values that is made.
use Rattle.std.specs.Prelude.{◌≡◌, ℕ, ◌<◌, ◌≤◌, Bool, true, List, None, Some, Option, length}
use Rattle.std.proofs.Props.{props}
use Rattle.cg_c_values.specs.Values.{Value, Const, Turn, Quotient, Digit, Carried, Input, Loaded, Two, Select, Fits, IsBelow, IsWordOf, MayStand, Moment, Words, value_at}

-- each value may stand where it does
abbrev pub AllStand : List Value → Type 0
AllStand values = (v : ℕ) → v < length values → MayStand v (value_at values v)

-- v is a value whose word is 0 or 1 wherever the words fit
pub record IsTruth (values : List Value) (v : ℕ) : Type 0 where
  pub within : v < length values
  pub is : (x : Moment) (E : Words) → Fits values x E → E v ≤ 1

-- the value's word is 0 or 1 wherever the words of the values before it fit
abbrev pub GivesTruth : List Value → Value → Type 0
GivesTruth values value = (x : Moment) (E : Words) (w : ℕ) → Fits values x E → IsWordOf x E value w → w ≤ 1

-- each number that passes the test is of such a value
abbrev pub AreTruths : List Value → (ℕ → Bool) → Type 0
AreTruths values test = (v : ℕ) → test v ≡ true → IsTruth values v

-- ---- these facts have one proof at most

below_prop : (v : ℕ) (guard : Option ℕ) → IsProp (IsBelow v guard)
below_prop v None = Prim.hlevel props
below_prop v (Some guard) = Prim.hlevel props

stand_prop : (v : ℕ) (value : Value) → IsProp (MayStand v value)
stand_prop v (Const word) = Prim.hlevel props
stand_prop v (Loaded array version guard address) = Prim.hlevel (props, below_prop)
stand_prop v (Two op first second) = Prim.hlevel props
stand_prop v (Select condition chosen other) = Prim.hlevel props
stand_prop v Turn = Prim.hlevel props
stand_prop v (Quotient divisor) = Prim.hlevel props
stand_prop v (Digit divisor radix) = Prim.hlevel props
stand_prop v (Carried number) = Prim.hlevel props
stand_prop v (Input port) = Prim.hlevel props

pub all_stand_prop : (values : List Value) → IsProp (AllStand values)
all_stand_prop values = Prim.hlevel (props, stand_prop)
