-- How the draft of a turn stands to a run of the program at the same point.
use Rattle.std.specs.Prelude.{◌≡◌, ◌⊎◌, ℕ, suc, ◌+◌, ◌<◌, ◌≤◌, ◌==◌, nat_lt, if◌then◌else◌, true, false, List, [], ◌∷◌, ◌++◌, length, take, Contains, Option, Some, None, slice_get, slice_index}
use Rattle.cg_c_check.specs.declared.program.Array.{Array}
use Rattle.cg_c_check.specs.Arrays.{size_of}
use Rattle.cg_c_check.specs.Program.{Expr}
use Rattle.cg_c_values.specs.declared.value.Value.{Value}
use Rattle.cg_c_values.specs.declared.value.Value.TheVariants.{Carried, Loaded}
use Rattle.cg_c_values.specs.Values.{Moment, Words, Fits, Keeps, IsBelow, IsLoad, holds, value_at}
use Rattle.cg_c_meaning.specs.Meaning.{State, Context, Run, value}
use Rattle.cg_c_meaning.specs.Typed.{AreArranged, inputs}
pub use Rattle.cg_c_turn.specs.declared.draft.Wanted.{Wanted}
pub use Rattle.cg_c_turn.specs.declared.draft.Wanted.TheVariants.{TheWord, ACondition}
use Rattle.cg_c_turn.specs.Draft.{Draft, Effect, Load, Store, Send, Stored, assigned_in, initial_in, latest_in}
use Rattle.cg_c_turn.specs.Leads.{Outcome, Leads, IsInside}

-- ---- well-formed drafts

abbrev pub AreBelow : ℕ → List ℕ → Type 0
AreBelow n vs = (v : ℕ) → Contains vs v → v < n

abbrev pub IsStoredBelow : ℕ → Option Stored → Type 0
IsStoredBelow n None = Unit {0}
IsStoredBelow n (Some s) = IsBelow n s.guard × (s.address < n) × (s.word < n)

-- the value of a load is one of its array, after as many stores to it as there were or less
pub record IsLoadOf (d : Draft) (guard : Option ℕ) (array address value : ℕ) : Type 0 where
  pub version : ℕ
  pub within : value < length d.values
  pub is : value_at d.values value ≡ Loaded array version guard address
  pub so_far : version ≤ (latest_in d array).version

-- the number of stores to an array among effects
abbrev pub stores_to : (array : ℕ) → List Effect → ℕ
stores_to array [] = 0
stores_to array (Store guard of address word place ∷ es) = (if of == array then 1 else 0) + stores_to array es
stores_to array (_ ∷ es) = stores_to array es

-- the ports that effects send to, in order
abbrev pub sent_ports : List Effect → List ℕ
sent_ports [] = []
sent_ports (Send guard port word ∷ es) = port ∷ sent_ports es
sent_ports (_ ∷ es) = sent_ports es

-- the numbers qs are the numbers ps, in their order, with some left out
abbrev pub IsAmong : (qs ps : List ℕ) → Type 0
IsAmong qs [] = qs ≡ []
IsAmong qs (p ∷ ps) = IsAmong qs ps ⊎ ((rest : List ℕ) × (qs ≡ p ∷ rest) × IsAmong rest ps)

-- the ports that further effects send to are among these
pub record Sends (before after : Draft) (outs : List ℕ) : Type 0 where
  pub ports : List ℕ
  pub sent : sent_ports after.effects ≡ sent_ports before.effects ++ ports
  pub among : IsAmong ports outs

-- one of these effects loads the value
pub record IsLoadedBy (effects : List Effect) (value : ℕ) : Type 0 where
  pub guard : Option ℕ
  pub array : ℕ
  pub address : ℕ
  pub place : ℕ
  pub there : Contains effects (Load guard array address value place)

-- each load among the first n values is done by one of these effects
abbrev pub AreLoadedBy : List Effect → List Value → (n : ℕ) → Type 0
AreLoadedBy effects values n = (v : ℕ) → v < n → IsLoad (value_at values v) → IsLoadedBy effects v

-- a value that an effect after these may use: the loads up to it are done
pub record IsUsable (values : List Value) (before : List Effect) (v : ℕ) : Type 0 where
  pub within : v < length values
  pub loaded : AreLoadedBy before values (suc v)

abbrev pub IsUsableGuard : List Value → (before : List Effect) → Option ℕ → Type 0
IsUsableGuard values before None = Unit {0}
IsUsableGuard values before (Some guard) = IsUsable values before guard

-- so are those that an effect uses
abbrev pub AreUsable : List Value → (before : List Effect) → Effect → Type 0
AreUsable values before (Load guard array address value place) = IsUsableGuard values before guard × IsUsable values before address
AreUsable values before (Store guard array address word place) = IsUsableGuard values before guard × IsUsable values before address × IsUsable values before word
AreUsable values before (Send guard port word) = IsUsableGuard values before guard × IsUsable values before word

-- a load's value names as many stores to its array as there are before it
abbrev pub IsNumbered : List Value → (before : List Effect) → Effect → Type 0
IsNumbered values before (Load guard array address value place) = value_at values value ≡ Loaded array (stores_to array before) guard address
IsNumbered values before _ = Unit {0}

-- what the effects of a draft have done
pub record IsHistory (d : Draft) : Type 0 where
  pub counted : (array : ℕ) → (latest_in d array).version ≡ stores_to array d.effects
  pub numbered : (i : ℕ) (e : Effect) → slice_get d.effects i ≡ Some e → IsNumbered d.values (take i d.effects) e
  pub loaded : AreLoadedBy d.effects d.values (length d.values)
  pub usable : (i : ℕ) (e : Effect) → slice_get d.effects i ≡ Some e → AreUsable d.values (take i d.effects) e

-- all that it refers to is there
pub record IsFormed (d : Draft) : Type 0 where
  pub arranged : AreArranged 0 d.arrays
  pub counters : AreBelow (length d.values) d.counters
  pub guard : IsBelow (length d.values) d.guard
  pub words : (number : ℕ) → IsBelow (length d.values) (assigned_in d number)
  pub latest : length d.latest ≡ length d.arrays
  pub stored : (array : ℕ) → IsStoredBelow (length d.values) (latest_in d array).stored
  pub loads : (guard : Option ℕ) (array address value place : ℕ) → Contains d.effects (Load guard array address value place) →
      IsLoadOf d guard array address value
  pub history : IsHistory d

-- a word was used as it was when the turn began
abbrev pub IsTouched : Draft → ℕ → Type 0
IsTouched d number = (v : ℕ) × (v < length d.values) × (value_at d.values v ≡ Carried number)

-- after further statements: these effects were added, and the point is under the same guard and in the same loops
pub record Grows (before after : Draft) (added : List Effect) : Type 0 where
  pub arrays : after.arrays ≡ before.arrays
  pub counters : after.counters ≡ before.counters
  pub guard : after.guard ≡ before.guard
  pub values : Keeps before.values after.values
  pub effects : after.effects ≡ before.effects ++ added
  pub initial : (number : ℕ) → IsTouched before number → initial_in after number ≡ initial_in before number

-- ---- turns

-- a turn of a run in which these words fit the draft; the first turn begins with the initial words
pub record Runs (d : Draft) (x : Moment) (E : Words) : Type 0 where
  pub fits : Fits d.values x E
  pub first : x.turn ≡ 0 → (number : ℕ) → IsTouched d number → x.carried number ≡ initial_in d number

-- the word of a word of the program at the point
abbrev pub begun : Moment → Draft → (number : ℕ) → ℕ
begun x d number = if x.turn == 0 then initial_in d number else x.carried number

abbrev pub word_or : Words → ℕ → Option ℕ → ℕ
word_or E word None = word
word_or E word (Some v) = E v

abbrev pub word_in : Moment → Words → Draft → (number : ℕ) → ℕ
word_in x E d number = word_or E (begun x d number) (assigned_in d number)

abbrev pub HasTable : List ℕ → Array → Option (List ℕ) → Type 0
HasTable memory a None = Unit {0}
HasTable memory a (Some table) =
    (length table ≡ size_of a.dimensions) × ((i : ℕ) → i < length table → slice_index memory (a.start + i) ≡ slice_index table i)

abbrev pub IsFresh : List Array → Words → List ℕ → (array : ℕ) → Option Stored → Type 0
IsFresh arrays E memory array None = Unit {0}
IsFresh arrays E memory array (Some s) =
    holds E s.guard ≡ true → IsInside arrays array (E s.address) × (E s.word ≡ slice_index memory (E s.address))

-- what the draft says of the memory is so: arrays have room, and tables their words; a load since the last store to its
-- array, and that store, have the word that is there
pub record IsSound (d : Draft) (E : Words) (m : Outcome) : Type 0 where
  pub room : (a : Array) → Contains d.arrays a → a.start + size_of a.dimensions ≤ length m.memory
  pub tables : (a : Array) → Contains d.arrays a → HasTable m.memory a a.table
  pub loaded : (guard : Option ℕ) (array address value place : ℕ) → Contains d.effects (Load guard array address value place) →
      value_at d.values value ≡ Loaded array (latest_in d array).version guard address → holds E guard ≡ true →
      IsInside d.arrays array (E address) × (E value ≡ slice_index m.memory (E address))
  pub stored : (array : ℕ) → IsFresh d.arrays E m.memory array (latest_in d array).stored

-- the state of the run has the same memory, streams and words, and the same counters around
pub record Matches (d : Draft) (x : Moment) (E : Words) (m : Outcome) (c : Context) (s : State) : Type 0 where
  pub arrays : c.arrays ≡ d.arrays
  pub streams : c.streams ≡ x.streams
  pub memory : s.memory ≡ m.memory
  pub outputs : (port : ℕ) → s.outputs port ≡ m.outputs port
  pub words : (number : ℕ) → word_in x E d number ≡ s.words number
  pub counters : (depth : ℕ) → word_or E 0 (slice_get d.counters depth) ≡ slice_index c.counters depth
  pub loops : length c.counters ≡ length d.counters

-- the streams of these ports stand at this turn's word
abbrev pub AreReady : Moment → State → List ℕ → Type 0
AreReady x s ports = (port : ℕ) → Contains ports port → s.taken port ≡ x.turn

-- ---- what a translation has to show

-- the word of a value that was wanted: itself, or as a condition one that is 0 where the word is
abbrev pub Agrees : Wanted → (value word : ℕ) → Type 0
Agrees TheWord value word = value ≡ word
Agrees ACondition value word = nat_lt 0 value ≡ nat_lt 0 word

-- a run is at the point, and evaluates this expression next, to the word w
pub record Evaluates (d : Draft) (x : Moment) (E : Words) (m : Outcome) (e : Expr) (w : ℕ) : Type 0 where
  pub context : Context
  pub before : State
  pub after : State
  pub matches : Matches d x E m context before
  pub ready : AreReady x before (inputs e)
  pub runs : value context e before ≡ Some (w, after)

-- what the effects of an expression lead to: the memory and the streams are as they were
pub record IsEvaluated (d : Draft) (E : Words) (m : Outcome) (wanted : Wanted) (v w : ℕ) (n : Outcome) : Type 0 where
  pub same : n ≡ m
  pub sound : IsSound d E n
  pub agrees : holds E d.guard ≡ true → Agrees wanted (E v) w

-- v is the value of an expression
pub record Translates (before after : Draft) (added : List Effect) (e : Expr) (wanted : Wanted) (v : ℕ) : Type 0 where
  pub grows : Grows before after added
  pub formed : IsFormed after
  pub words : after.words ≡ before.words
  pub initial : after.initial ≡ before.initial
  pub latest : after.latest ≡ before.latest
  pub silent : sent_ports added ≡ []
  pub within : v < length after.values
  pub leads : (x : Moment) (E : Words) (m : Outcome) (w : ℕ) → Runs after x E → IsSound before E m →
      (holds E before.guard ≡ true → Evaluates before x E m e w) →
      Leads before.arrays E added m (IsEvaluated after E m wanted v w)

-- a run is at the point, and does this statement next
pub record Does (d : Draft) (x : Moment) (E : Words) (m : Outcome) (c : Context) (run : Run (Unit {0})) (ports : List ℕ) (after : State) : Type 0 where
  pub before : State
  pub matches : Matches d x E m c before
  pub ready : AreReady x before ports
  pub runs : run before ≡ Some (tt, after)

-- what the effects of a statement lead to: what the run leads to, and nothing where the guard doesn't hold
pub record IsDone (d : Draft) (x : Moment) (E : Words) (m : Outcome) (c : Context) (after : State) (n : Outcome) : Type 0 where
  pub sound : IsSound d E n
  pub idle : holds E d.guard ≡ false → n ≡ m
  pub matches : holds E d.guard ≡ true → Matches d x E n c after

-- a part of the program, which takes words from these ports, is translated, where this is known of the words E
pub record Performs (before after : Draft) (added : List Effect) (given : Words → Type 0) (run : Context → Run (Unit {0})) (ports : List ℕ) : Type 0 where
  pub grows : Grows before after added
  pub formed : IsFormed after
  pub leads : (x : Moment) (E : Words) (m : Outcome) (c : Context) (end : State) → Runs after x E → IsSound before E m →
      (holds E before.guard ≡ true → given E × Does before x E m c (run c) ports end) →
      Leads before.arrays E added m (IsDone after x E m c end)

-- nothing is to be known
abbrev pub Any : Words → Type 0
Any E = Unit {0}
