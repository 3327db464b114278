-- Which values are live: those that a store or an output needs, in a turn or in one after it.
use Rattle.std.specs.Prelude.{◌≡◌, ℕ, ◌<◌, Bool, ◌&&◌, true, false, List, length, Option, Some, None, slice_index_or}
use Rattle.cg_c_values.specs.declared.value.Value.{Value}
use Rattle.cg_c_values.specs.declared.value.Value.TheVariants.{Carried, Loaded, Two, Select}
use Rattle.cg_c_values.specs.Values.{IsBelow, value_at}
use Rattle.cg_c_kernel.specs.declared.acts.Act.{Act}
use Rattle.cg_c_kernel.specs.declared.acts.Act.TheVariants.{Idle, Load, Store, Send}

-- ---- marks of values

abbrev pub has_mark : List Bool → ℕ → Bool
has_mark marks v = slice_index_or marks v false

abbrev pub has_any_mark : List Bool → Option ℕ → Bool
has_any_mark marks None = true
has_any_mark marks (Some v) = has_mark marks v

-- the final value of a word, if it is assigned
abbrev pub final_in : List (Option ℕ) → (number : ℕ) → Option ℕ
final_in finals number = slice_index_or finals number None

-- what a value needs has marks: its operands or, for a word that is carried, its final value
abbrev pub parts_marked : List Bool → List (Option ℕ) → Value → Bool
parts_marked marks finals (Carried number) = has_any_mark marks (final_in finals number)
parts_marked marks finals (Loaded array version guard address) = has_any_mark marks guard && has_mark marks address
parts_marked marks finals (Two op first second) = has_mark marks first && has_mark marks second
parts_marked marks finals (Select condition chosen other) = has_mark marks condition && (has_mark marks chosen && has_mark marks other)
parts_marked marks finals _ = true

-- all that live values need is live
abbrev pub AreClosed : List Value → List (Option ℕ) → List Bool → Type 0
AreClosed values finals marks = (v : ℕ) → v < length values → has_mark marks v ≡ true → parts_marked marks finals (value_at values v) ≡ true

-- ---- acts

abbrev pub act_at : List Act → ℕ → Act
act_at acts i = slice_index_or acts i Idle

-- what an act needs has marks
abbrev pub needs_marked : List Bool → Act → Bool
needs_marked marks (Store guard array address word) = has_any_mark marks guard && (has_mark marks address && has_mark marks word)
needs_marked marks (Send guard port word) = has_any_mark marks guard && has_mark marks word
needs_marked marks _ = true

-- all that the acts need is live
abbrev pub AreNeeded : List Act → List Bool → Type 0
AreNeeded acts marks = (i : ℕ) → i < length acts → needs_marked marks (act_at acts i) ≡ true

-- ---- all that is referred to is there

abbrev pub AreFinalsWithin : ℕ → List (Option ℕ) → Type 0
AreFinalsWithin n finals = (number : ℕ) → IsBelow n (final_in finals number)

abbrev pub IsActWithin : ℕ → Act → Type 0
IsActWithin n Idle = Unit {0}
IsActWithin n (Load array value) = value < n
IsActWithin n (Store guard array address word) = IsBelow n guard × (address < n) × (word < n)
IsActWithin n (Send guard port word) = IsBelow n guard × (word < n)

abbrev pub AreActsWithin : ℕ → List Act → Type 0
AreActsWithin n acts = (i : ℕ) → i < length acts → IsActWithin n (act_at acts i)
