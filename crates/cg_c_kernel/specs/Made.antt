-- The nodes that were made so far, and the values that they compute.
use Rattle.std.specs.Prelude.{◌≡◌, ◌⊎◌, ℕ, ◌+◌, ◌-◌, ◌<◌, ◌≤◌, Bool, true, false, List, [], ◌∷◌, ◌++◌, length, Contains, Option, Some, None, slice_get, slice_index_or, slice_set}
use Rattle.cg_word.specs.declared.op.Op.{Op}
use Rattle.cg_word.specs.declared.op.Op.TheVariants as ops
use Rattle.cg_word.specs.Word.{words, apply_of, is_access, is_output}
use Rattle.cg_c_values.specs.declared.value.Value.{Value}
use Rattle.cg_c_values.specs.declared.value.Value.TheVariants as values
use Rattle.cg_c_values.specs.Values.{IsLoad, value_at}
use Rattle.cg_c_kernel.specs.Live.{has_mark}
pub use Rattle.cg_c_kernel.specs.declared.sketch.Ref.{Ref}
pub use Rattle.cg_c_kernel.specs.declared.sketch.Ref.TheVariants.{Word, Now, Rotation, Remainder, Quotient, Carried}
pub use Rattle.cg_c_kernel.specs.declared.sketch.Refs.{Refs}
pub use Rattle.cg_c_kernel.specs.declared.sketch.Refs.TheVariants.{Zero, One, Two, Three}
pub use Rattle.cg_c_kernel.specs.declared.sketch.Sketch.{Sketch}
use Rattle.cg_c_kernel.specs.declared.emission.Emission.{Emission}

-- the nodes, the node of each value that has one, and the words that were met
pub record Made : Type 0 where
  pub nodes : List Sketch
  pub at : List (Option ℕ)
  pub met : List ℕ

abbrev pub made_of : Emission → Made
made_of e = record { nodes = e.nodes.items; at = e.at.items; met = e.met.items }

abbrev pub node_in : Made → (v : ℕ) → Option ℕ
node_in s v = slice_index_or s.at v None

-- ---- nodes and their operands

abbrev pub sketch : Op → (port : ℕ) → Refs → Sketch
sketch op port operands = record { op = op; port = port; operands = operands }

-- node m has this operation, this port and these operands
pub record Is (s : Made) (m : ℕ) (op : Op) (port : ℕ) (operands : Refs) : Type 0 where
  pub there : slice_get s.nodes m ≡ Some (sketch op port operands)

-- an operand of a value that isn't a constant or carried
abbrev pub IsAt : Option ℕ → Ref → Type 0
IsAt None r = ⊥
IsAt (Some m) r = r ≡ Now m

-- the operand has the word of a value, the one of number a
abbrev pub IsRefOf : Made → (a : ℕ) → Value → Ref → Type 0
IsRefOf s a (values.Const word) r = (r ≡ Word word) ⊎ ((m : ℕ) × Is s m ops.Const 0 (One (Word word)) × (r ≡ Now m))
IsRefOf s a (values.Carried number) r = r ≡ Carried number
IsRefOf s a value r = IsAt (node_in s a) r

pub record IsRef (old : List Value) (s : Made) (a : ℕ) (r : Ref) : Type 0 where
  pub stands : IsRefOf s a (value_at old a) r

pub record OnOne (old : List Value) (s : Made) (m : ℕ) (op : Op) (port a : ℕ) : Type 0 where
  pub first : Ref
  pub is : Is s m op port (One first)
  pub first_is : IsRef old s a first

pub record OnTwo (old : List Value) (s : Made) (m : ℕ) (op : Op) (port a b : ℕ) : Type 0 where
  pub first : Ref
  pub second : Ref
  pub is : Is s m op port (Two first second)
  pub first_is : IsRef old s a first
  pub second_is : IsRef old s b second

pub record OnThree (old : List Value) (s : Made) (m : ℕ) (op : Op) (a b c : ℕ) : Type 0 where
  pub first : Ref
  pub second : Ref
  pub third : Ref
  pub is : Is s m op 0 (Three first second third)
  pub first_is : IsRef old s a first
  pub second_is : IsRef old s b second
  pub third_is : IsRef old s c third

-- nodes are added at the end
abbrev pub with_nodes : Made → List Sketch → Made
with_nodes s xs = record { nodes = s.nodes ++ xs; at = s.at; met = s.met }

-- the five nodes from m on are a recurrence over two turns for the quotient by `divisor`
pub record Recurs (s : Made) (m divisor : ℕ) : Type 0 where
  pub wraps : Is s m ops.Lts 0 (Two (Word (words - 3)) (Remainder m))
  pub again : Is s (m + 1) ops.Add 0 (Two (Remainder m) (Word (apply_of ops.Sub 2 divisor 0)))
  pub further : Is s (m + 2) ops.Add 0 (Two (Remainder m) (Word 2))
  pub remainder : Is s (m + 3) ops.Select 0 (Three (Now m) (Now (m + 1)) (Now (m + 2)))
  pub quotient : Is s (m + 4) ops.Add 0 (Two (Quotient m) (Now m))

-- node m computes a value
abbrev pub Computes : List Value → Made → ℕ → Value → Type 0
Computes old s m values.Turn = Is s m ops.Iter 0 Zero
Computes old s m (values.Quotient divisor) = (first : ℕ) × (first + 4 ≡ m) × Recurs s first divisor
Computes old s m (values.Digit divisor radix) = Is s m ops.Const 0 (One (Rotation m))
Computes old s m (values.Input port) = Is s m ops.Input port Zero
Computes old s m (values.Loaded array version None address) = OnOne old s m ops.Load 0 address
Computes old s m (values.Loaded array version (Some guard) address) = OnTwo old s m ops.LoadIf 0 guard address
Computes old s m (values.Two op first second) = OnTwo old s m op 0 first second
Computes old s m (values.Select condition chosen other) = OnThree old s m ops.Select condition chosen other
Computes old s m _ = ⊥

-- ---- words that are carried

-- a live value is the word of this number as it was when the turn began
pub record IsLiveWord (old : List Value) (marks : List Bool) (number : ℕ) : Type 0 where
  pub v : ℕ
  pub within : v < length old
  pub is : value_at old v ≡ values.Carried number
  pub live : has_mark marks v ≡ true

-- these operands use such a word
abbrev pub Uses : Refs → (number : ℕ) → Type 0
Uses Zero number = ⊥
Uses (One a) number = a ≡ Carried number
Uses (Two a b) number = (a ≡ Carried number) ⊎ (b ≡ Carried number)
Uses (Three a b c) number = (a ≡ Carried number) ⊎ ((b ≡ Carried number) ⊎ (c ≡ Carried number))

-- ---- the whole

-- what was made is what it has to be
pub record Stands (old : List Value) (marks : List Bool) (s : Made) : Type 0 where
  pub long : length s.at ≡ length old
  pub computed : (v m : ℕ) → node_in s v ≡ Some m → (v < length old) × (m < length s.nodes) × Computes old s m (value_at old v)
  pub apart : (u v m : ℕ) → node_in s u ≡ Some m → node_in s v ≡ Some m → u ≡ v
  pub used : (m number : ℕ) (x : Sketch) → slice_get s.nodes m ≡ Some x → Uses x.operands number → IsLiveWord old marks number
  pub met : (number : ℕ) → Contains s.met number → IsLiveWord old marks number

-- a node that neither accesses memory nor sends a word
abbrev pub IsQuiet : Sketch → Type 0
IsQuiet x = (is_access x.op ≡ false) × (is_output x.op ≡ false)

-- nodes were added at the end, and values got nodes
pub record Grows (s t : Made) : Type 0 where
  pub longer : length s.nodes ≤ length t.nodes
  pub nodes : (m : ℕ) (x : Sketch) → slice_get s.nodes m ≡ Some x → slice_get t.nodes m ≡ Some x
  pub at : (v m : ℕ) → node_in s v ≡ Some m → node_in t v ≡ Some m

-- a node was added at the end, or none
pub record IsGrownBy (s t : Made) (x : Sketch) : Type 0 where
  pub at : t.at ≡ s.at
  pub met : t.met ≡ s.met
  pub nodes : (t.nodes ≡ s.nodes) ⊎ (t.nodes ≡ s.nodes ++ x ∷ [])

-- so it was with the node of a constant
pub record GrowsByConstant (s t : Made) : Type 0 where
  pub word : ℕ
  pub grown : IsGrownBy s t (sketch ops.Const 0 (One (Word word)))

-- the nodes from n on, up to m, are quiet
abbrev pub AreQuiet : (t : Made) (n m : ℕ) → Type 0
AreQuiet t n m = (k : ℕ) (x : Sketch) → n ≤ k → k < m → slice_get t.nodes k ≡ Some x → IsQuiet x

-- a value that may be an operand: it is a constant, carried or has a node
abbrev pub IsReadyAs : Made → (a : ℕ) → Value → Type 0
IsReadyAs s a (values.Const word) = Unit {0}
IsReadyAs s a (values.Carried number) = Unit {0}
IsReadyAs s a value = (m : ℕ) × (node_in s a ≡ Some m)

pub record IsReady (old : List Value) (marks : List Bool) (s : Made) (a : ℕ) : Type 0 where
  pub within : a < length old
  pub live : has_mark marks a ≡ true
  pub ready : IsReadyAs s a (value_at old a)

-- nodes were added, quiet ones but for the last, m
pub record Adds (old : List Value) (marks : List Bool) (s t : Made) (m : ℕ) : Type 0 where
  pub stands : Stands old marks t
  pub grows : Grows s t
  pub at : t.at ≡ s.at
  pub last : m + 1 ≡ length t.nodes
  pub fresh : length s.nodes ≤ m
  pub quiet : AreQuiet t (length s.nodes) m

-- the live loads up to v have nodes
abbrev pub HasLoads : List Value → List Bool → Made → (v : ℕ) → Type 0
HasLoads old marks s v = (u : ℕ) → u ≤ v → IsLoad (value_at old u) → has_mark marks u ≡ true → (m : ℕ) × (node_in s u ≡ Some m)

-- a value that may get its node
pub record MayBeMade (old : List Value) (marks : List Bool) (s : Made) (v : ℕ) : Type 0 where
  pub within : v < length old
  pub live : has_mark marks v ≡ true
  pub loads : HasLoads old marks s v

-- quiet nodes were added
pub record AddsQuiet (old : List Value) (marks : List Bool) (s t : Made) : Type 0 where
  pub stands : Stands old marks t
  pub grows : Grows s t
  pub quiet : AreQuiet t (length s.nodes) (length t.nodes)

-- a node was added as number m
pub record IsPushed (s t : Made) (m : ℕ) (x : Sketch) : Type 0 where
  pub number : m ≡ length s.nodes
  pub added : t ≡ with_nodes s (x ∷ [])

-- a value that is computed from no others
abbrev pub IsLeaf : Value → Type 0
IsLeaf values.Turn = Unit {0}
IsLeaf (values.Quotient divisor) = Unit {0}
IsLeaf (values.Digit divisor radix) = Unit {0}
IsLeaf (values.Input port) = Unit {0}
IsLeaf _ = ⊥

-- nodes were added, the last of them, m, for this value
pub record Gains (old : List Value) (marks : List Bool) (s t : Made) (m : ℕ) (value : Value) : Type 0 where
  pub adds : Adds old marks s t m
  pub computes : Computes old t m value

-- value v got the node m
abbrev pub with_place : Made → (v m : ℕ) → Made
with_place s v m = record { nodes = s.nodes; at = slice_set s.at v (Some m); met = s.met }

-- ---- effects

-- nodes were added, quiet ones but for the last, m, and values got nodes
pub record AddsNode (old : List Value) (marks : List Bool) (s t : Made) (m : ℕ) : Type 0 where
  pub stands : Stands old marks t
  pub grows : Grows s t
  pub last : m + 1 ≡ length t.nodes
  pub fresh : length s.nodes ≤ m
  pub quiet : AreQuiet t (length s.nodes) m

-- a guard that may get its node
abbrev pub IsGuardMade : List Value → List Bool → Made → Option ℕ → Type 0
IsGuardMade old marks s None = Unit {0}
IsGuardMade old marks s (Some guard) = MayBeMade old marks s guard

-- node m stores a word, or sends it
abbrev pub IsStore : List Value → Made → ℕ → Option ℕ → (address word : ℕ) → Type 0
IsStore old s m None address word = OnTwo old s m ops.Store 0 address word
IsStore old s m (Some guard) address word = OnThree old s m ops.StoreIf guard address word

abbrev pub IsSend : List Value → Made → ℕ → Option ℕ → (port word : ℕ) → Type 0
IsSend old s m None port word = OnOne old s m ops.Output port word
IsSend old s m (Some guard) port word = OnTwo old s m ops.OutputIf port guard word

-- the live loads before v have nodes
abbrev pub HasLoadsBelow : List Value → List Bool → Made → (v : ℕ) → Type 0
HasLoadsBelow old marks s v = (u : ℕ) → u < v → IsLoad (value_at old u) → has_mark marks u ≡ true → (m : ℕ) × (node_in s u ≡ Some m)

-- value v, if it is a live load, has a node: it had it, or got the node m, the last one
abbrev pub IsLoaded : List Value → List Bool → (s t : Made) → (v : ℕ) → Option ℕ → Type 0
IsLoaded old marks s t v None = (t ≡ s) × (IsLoad (value_at old v) → has_mark marks v ≡ true → (m : ℕ) × (node_in s v ≡ Some m))
IsLoaded old marks s t v (Some m) = AddsNode old marks s t m × IsLoad (value_at old v) × (node_in t v ≡ Some m)
