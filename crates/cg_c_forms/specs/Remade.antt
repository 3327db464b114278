-- What the steps of making values again say.
use Rattle.std.specs.Prelude.{◌≡◌, ◌⊎◌, ℕ, ◌<◌, ◌≤◌, false, List, length, Option, EachIndex, slice_index}
use Rattle.cg_c_values.specs.declared.value.Value.{Value}
use Rattle.cg_c_values.specs.declared.value.Value.TheVariants.{Const, Loaded}
use Rattle.cg_c_values.specs.Values.{Fits, IsLoad, IsPure, IsWordOf, MayStand, Moment, Words, holds, value_at}
use Rattle.cg_c_forms.specs.Forms.{IsForm, IsLoadOf, behind, renamed}

-- ---- values that were added

-- values were added at the end, and each of them is of this kind
pub record Adds (IsKind : Value → Type 0) (old new : List Value) : Type 0 where
  pub longer : length old ≤ length new
  pub kept : (v : ℕ) → v < length old → value_at new v ≡ value_at old v
  pub kind : (v : ℕ) → length old ≤ v → v < length new → IsKind (value_at new v)

-- a value that has nodes and is no load
abbrev pub IsComputed : (turns : ℕ) → Value → Type 0
IsComputed turns value = IsForm turns value × ¬ IsLoad value

-- a pure value or a load
abbrev pub IsPureOrLoad : Value → Type 0
IsPureOrLoad value = IsPure value ⊎ IsLoad value

-- each load that was added has this number
abbrev pub AddsLoadAt : (old new : List Value) → ℕ → Type 0
AddsLoadAt old new v = (u : ℕ) → length old ≤ u → u < length new → IsLoad (value_at new u) → v ≡ u

-- a load is added only for a load
abbrev pub AddsLoadFor : (old new : List Value) → Value → Type 0
AddsLoadFor old new value = (u : ℕ) → length old ≤ u → u < length new → IsLoad (value_at new u) → IsLoad value

-- ---- words in the turns

-- v is a value, and has this word in each of `turns` turns
pub record MeansIn (turns : ℕ) (values : List Value) (v : ℕ) (word : ℕ → ℕ) : Type 0 where
  pub within : v < length values
  pub is : (x : Moment) (E : Words) → x.turn < turns → Fits values x E → E v ≡ word x.turn

-- ---- loads

-- a load under a guard: one of the array at the address that acts where the guard holds and nowhere else, or a constant
-- if the guard never holds
unfoldable pub IsLoadUnder : List Value → (array version : ℕ) (guard : Option ℕ) (address : ℕ) → Value → Type 0
IsLoadUnder values array version guard address (Loaded array' version' guard' address') =
    (array' ≡ array) × (version' ≡ version) × (address' ≡ address)
    × ((x : Moment) (E : Words) → Fits values x E → holds E guard' ≡ holds E guard)
IsLoadUnder values array version guard address (Const word) = (x : Moment) (E : Words) → Fits values x E → holds E guard ≡ false
IsLoadUnder values array version guard address _ = ⊥

-- v is such a load
pub record IsLoadAt (values : List Value) (array version : ℕ) (guard : Option ℕ) (address v : ℕ) : Type 0 where
  pub within : v < length values
  pub load : IsLoadUnder values array version guard address (value_at values v)

-- ---- values

-- each number of the map is one of a value
abbrev pub AllWithin : List Value → List ℕ → Type 0
AllWithin values map = EachIndex map (λ v. slice_index map v < length values)

-- v is the new value of an old one
pub record IsNew (old new : List Value) (turns : ℕ) (map : List ℕ) (value : Value) (v : ℕ) : Type 0 where
  pub within : v < length new
  pub is : (x : Moment) (E : Words) → x.turn < turns → Fits new x E → IsWordOf x (behind E map) value (E v)
  pub load : (array version address : ℕ) (guard : Option ℕ) → value ≡ Loaded array version guard address →
      IsLoadOf old new turns map array version guard address (value_at new v)

-- the first `count` values have new ones
pub record RenamesFirst (old new : List Value) (turns : ℕ) (map : List ℕ) (count : ℕ) : Type 0 where
  pub long : length map ≡ count
  pub stand : (v : ℕ) → v < count → MayStand v (value_at old v)
  pub within : (v : ℕ) → v < count → renamed map v < length new
  pub is : (x : Moment) (E : Words) → x.turn < turns → Fits new x E → (v : ℕ) → v < count →
      IsWordOf x (behind E map) (value_at old v) (behind E map v)
  pub loads : (v array version address : ℕ) (guard : Option ℕ) → v < count → value_at old v ≡ Loaded array version guard address →
      IsLoadOf old new turns map array version guard address (value_at new (renamed map v))
  pub forms : (u : ℕ) → u < length new → IsForm turns (value_at new u)
  -- each load up to a new value was made of an old one up to its old value, and each load of one of the first `count`
  pub made : (u w : ℕ) → w < count → u ≤ renamed map w → IsLoad (value_at new u) → (v : ℕ) × (v ≤ w) × IsLoad (value_at old v) × (renamed map v ≡ u)
  pub all_made : (u : ℕ) → u < length new → IsLoad (value_at new u) → (v : ℕ) × (v < count) × IsLoad (value_at old v) × (renamed map v ≡ u)
