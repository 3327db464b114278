-- The values of a turn: each is a leaf, or the result of an operation on earlier values.
use Rattle.std.specs.Prelude.{◌≡◌, ℕ, ◌/◌, ◌%◌, ◌<◌, ◌≤◌, nat_le, nat_lt, Bool, ◌&&◌, true, Option, Some, None, List, [], length, slice_index, slice_index_or}
use Rattle.cg_word.specs.declared.op.Op.{Op}
use Rattle.cg_word.specs.declared.op.Op.TheVariants as ops
use Rattle.cg_word.specs.Word.{words, code, apply_of}
pub use Rattle.cg_c_values.specs.declared.value.Value.{Value}
pub use Rattle.cg_c_values.specs.declared.value.Value.TheVariants.{Const, Turn, Quotient, Digit, Carried, Input, Loaded, Two, Select}

-- ---- words

-- a turn of a run: its number, the word that each word of the program has when it begins, and the input streams
pub record Moment : Type 0 where
  pub turn : ℕ
  pub carried : ℕ → ℕ
  pub streams : List (List ℕ)

-- the words of values, by their numbers
abbrev pub Words : Type 0
Words = ℕ → ℕ

-- a word that a value may have, beside those of the others. What a load finds is a matter of the memory and not said
-- here
unfoldable pub IsWordOf : Moment → Words → Value → ℕ → Type 0
IsWordOf x E (Const word) w = w ≡ word
IsWordOf x E Turn w = w ≡ x.turn
IsWordOf x E (Quotient divisor) w = w ≡ x.turn / divisor
IsWordOf x E (Digit divisor radix) w = w ≡ x.turn / divisor % radix
IsWordOf x E (Carried number) w = w ≡ x.carried number
IsWordOf x E (Input port) w = w ≡ slice_index (slice_index_or x.streams port []) x.turn
IsWordOf x E (Loaded array version guard address) w = Unit {0}
IsWordOf x E (Two op first second) w = w ≡ apply_of op (E first) (E second) 0
IsWordOf x E (Select condition chosen other) w = w ≡ apply_of ops.Select (E condition) (E chosen) (E other)

-- the value of a number
abbrev pub value_at : List Value → ℕ → Value
value_at values v = slice_index_or values v (Const 0)

-- E gives each value a word that it may have in this turn
pub record Fits (values : List Value) (x : Moment) (E : Words) : Type 0 where
  pub word : (v : ℕ) → v < length values → E v < words
  pub is : (v : ℕ) → v < length values → IsWordOf x E (value_at values v) (E v)

-- v is a value, and has this word wherever the words fit
pub record Means (values : List Value) (v : ℕ) (word : Moment → Words → ℕ) : Type 0 where
  pub within : v < length values
  pub is : (x : Moment) (E : Words) → Fits values x E → E v ≡ word x E

-- ---- lists of values

-- values were added at the end
pub record Keeps (old new : List Value) : Type 0 where
  pub longer : length old ≤ length new
  pub kept : (v : ℕ) → v < length old → value_at new v ≡ value_at old v

-- the value is neither that of a load nor a digit or a quotient of the turn's number
abbrev pub IsPure : Value → Type 0
IsPure (Quotient divisor) = ⊥
IsPure (Digit divisor radix) = ⊥
IsPure (Loaded array version guard address) = ⊥
IsPure _ = Unit {0}

abbrev pub IsLoad : Value → Type 0
IsLoad (Loaded array version guard address) = Unit {0}
IsLoad _ = ⊥

-- values were added at the end, all of them pure
pub record Extends (old new : List Value) : Type 0 where
  pub longer : length old ≤ length new
  pub kept : (v : ℕ) → v < length old → value_at new v ≡ value_at old v
  pub pure : (v : ℕ) → length old ≤ v → v < length new → IsPure (value_at new v)

-- a value was added at the end, or none
pub record Inserts (old new : List Value) (value : Value) : Type 0 where
  pub longer : length old ≤ length new
  pub kept : (v : ℕ) → v < length old → value_at new v ≡ value_at old v
  pub one : (v : ℕ) → length old ≤ v → v < length new → value_at new v ≡ value

-- an operation on two words
abbrev pub is_plain : Op → Bool
is_plain op = nat_le (code ops.Add) (code op) && nat_le (code op) (code ops.Maxs)

abbrev pub IsBelow : ℕ → Option ℕ → Type 0
IsBelow v None = Unit {0}
IsBelow v (Some guard) = guard < v

-- a value that may stand at number v: what it is computed from stands before it, its operation is one on two words, a
-- constant is a word, and an input has one of the 16 ports
abbrev pub MayStand : ℕ → Value → Type 0
MayStand v (Const word) = word < words
MayStand v (Loaded array version guard address) = IsBelow v guard × (address < v)
MayStand v (Two op first second) = (is_plain op ≡ true) × (first < v) × (second < v)
MayStand v (Select condition chosen other) = (condition < v) × (chosen < v) × (other < v)
MayStand v (Input port) = port < 16
MayStand v _ = Unit {0}

-- ---- guards: a part of a turn acts where its guard isn't 0, or always if it has none

abbrev pub holds : Words → Option ℕ → Bool
holds E None = true
holds E (Some guard) = nat_lt 0 (E guard)
