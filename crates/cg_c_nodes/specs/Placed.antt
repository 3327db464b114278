-- The nodes of a kernel that do what a turn does: where values and effects have their nodes.
use Rattle.std.specs.Prelude.{◌≡◌, ◌≢◌, ◌⊎◌, ℕ, suc, ◌+◌, ◌-◌, ◌<◌, ◌≤◌, nat_lt, true, false, List, [], ◌∷◌, length, Contains, Option, Some, None, slice_get}
use Rattle.cg_word.specs.declared.op.Op.{Op}
use Rattle.cg_word.specs.declared.op.Op.TheVariants as ops
use Rattle.cg_word.specs.Word.{words, apply_of, is_access, is_output}
use Rattle.cg_model.specs.declared.kernel.Operand.{Operand}
use Rattle.cg_model.specs.declared.kernel.Operand.TheVariants.{Const as Constant, Edge}
use Rattle.cg_model.specs.Kernel.{Kernel, size, node}
use Rattle.cg_c_values.specs.declared.value.Value.{Value}
use Rattle.cg_c_values.specs.declared.value.Value.TheVariants as values
use Rattle.cg_c_values.specs.Values.{Moment, Words, Fits, holds, value_at}
use Rattle.cg_c_values.specs.Standing.{AllStand}
use Rattle.cg_c_forms.specs.Forms.{Renames, behind, renamed}
use Rattle.cg_c_order.specs.declared.access.Access.{Access}
use Rattle.cg_c_turn.specs.declared.effect.Effect.{Effect}
use Rattle.cg_c_turn.specs.declared.effect.Effect.TheVariants.{Load, Store, Send}
use Rattle.cg_c_turn.specs.Draft.{Draft, assigned_in, initial_in}

-- where a turn with the values `new`, of which old values have those that `map` says, has its nodes in the kernel K:
-- the node of a value; the operand of a word as it was when the turn began; of each effect the number of nodes before it,
-- and its node
pub record Placing : Type 0 where
  pub kernel : Kernel
  pub new : List Value
  pub map : List ℕ
  pub at : ℕ → Option ℕ
  pub carry : (number : ℕ) → Option Operand
  pub before : (effect : ℕ) → ℕ
  pub done : (effect : ℕ) → Option ℕ

-- ---- nodes

-- node m has this operation, this port and these operands
pub record Is (P : Placing) (m : ℕ) (op : Op) (port : ℕ) (operands : List Operand) : Type 0 where
  pub within : m < size P.kernel
  pub op_is : (node P.kernel m).op ≡ op
  pub port_is : (node P.kernel m).port ≡ port
  pub operands_are : (node P.kernel m).operands ≡ operands

-- the value that node m computed in this turn
abbrev pub now : ℕ → Operand
now m = Edge m 0 []

-- node m has a constant
abbrev pub IsConstant : Placing → ℕ → ℕ → Type 0
IsConstant P m word = Is P m ops.Const 0 (Constant word ∷ [])

-- ---- operands

-- an operand of a value that isn't a constant or carried
abbrev pub IsAt : Placing → Option ℕ → Operand → Type 0
IsAt P None o = ⊥
IsAt P (Some m) o = o ≡ now m

-- the operand has the word of a value, the one of number a
abbrev pub IsOperandOf : Placing → (a : ℕ) → Value → Operand → Type 0
IsOperandOf P a (values.Const word) o = (o ≡ Constant word) ⊎ ((m : ℕ) × IsConstant P m word × (o ≡ now m))
IsOperandOf P a (values.Carried number) o = P.carry number ≡ Some o
IsOperandOf P a value o = IsAt P (P.at a) o

abbrev pub IsOperand : Placing → (a : ℕ) → Operand → Type 0
IsOperand P a o = IsOperandOf P a (value_at P.new a) o

-- operand o of a node, and no other, has the word of value a
pub record One (P : Placing) (m : ℕ) (op : Op) (port a : ℕ) : Type 0 where
  pub first : Operand
  pub is : Is P m op port (first ∷ [])
  pub first_is : IsOperand P a first

pub record Two (P : Placing) (m : ℕ) (op : Op) (port a b : ℕ) : Type 0 where
  pub first : Operand
  pub second : Operand
  pub is : Is P m op port (first ∷ second ∷ [])
  pub first_is : IsOperand P a first
  pub second_is : IsOperand P b second

pub record Three (P : Placing) (m : ℕ) (op : Op) (a b c : ℕ) : Type 0 where
  pub first : Operand
  pub second : Operand
  pub third : Operand
  pub is : Is P m op 0 (first ∷ second ∷ third ∷ [])
  pub first_is : IsOperand P a first
  pub second_is : IsOperand P b second
  pub third_is : IsOperand P c third

-- ---- values

-- the remainder and the quotient of two turns ago, which node m + 3 and node m + 4 have
abbrev pub remainder_before : ℕ → Operand
remainder_before m = Edge (m + 3) 2 ((words - 2) ∷ (words - 1) ∷ [])

abbrev pub quotient_before : ℕ → Operand
quotient_before m = Edge (m + 4) 2 ((words - 1) ∷ (words - 1) ∷ [])

-- the five nodes from m on are a recurrence over two turns for the quotient by `divisor`
pub record Recurs (P : Placing) (m divisor : ℕ) : Type 0 where
  pub wraps : Is P m ops.Lts 0 (Constant (words - 3) ∷ remainder_before m ∷ [])
  pub again : Is P (m + 1) ops.Add 0 (remainder_before m ∷ Constant (apply_of ops.Sub 2 divisor 0) ∷ [])
  pub further : Is P (m + 2) ops.Add 0 (remainder_before m ∷ Constant 2 ∷ [])
  pub remainder : Is P (m + 3) ops.Select 0 (now m ∷ now (m + 1) ∷ now (m + 2) ∷ [])
  pub quotient : Is P (m + 4) ops.Add 0 (quotient_before m ∷ now m ∷ [])

-- node m computes a value
abbrev pub Computes : Placing → ℕ → Value → Type 0
Computes P m values.Turn = Is P m ops.Iter 0 []
Computes P m (values.Quotient divisor) = (first : ℕ) × (first + 4 ≡ m) × Recurs P first divisor
Computes P m (values.Digit divisor radix) = Is P m ops.Const 0 (Edge m 3 (0 ∷ 1 ∷ 2 ∷ []) ∷ [])
Computes P m (values.Input port) = Is P m ops.Input port []
Computes P m (values.Loaded array version None address) = One P m ops.Load 0 address
Computes P m (values.Loaded array version (Some guard) address) = Two P m ops.LoadIf 0 guard address
Computes P m (values.Two op first second) = Two P m op 0 first second
Computes P m (values.Select condition chosen other) = Three P m ops.Select condition chosen other
Computes P m _ = ⊥

-- ---- words from turn to turn

-- the value of a word when the turn ends, as far as it was assigned
abbrev pub final_value : Draft → Placing → (number : ℕ) → Value
final_value d P number = value_of (assigned_in d number)
  where
    value_of : Option ℕ → Value
    value_of None = values.Carried number
    value_of (Some v) = value_at P.new (renamed P.map v)

-- node m has the word of a word of the program as it was when the turn began
pub record Copies (P : Placing) (m number : ℕ) : Type 0 where
  pub source : Operand
  pub is : Is P m ops.Const 0 (source ∷ [])
  pub source_is : P.carry number ≡ Some source

-- the words in the first turns go on with those of another operand, a turn later
abbrev pub Follows : Placing → Option Operand → (m turns : ℕ) → List ℕ → Type 0
Follows P (Some (Edge u d init)) m turns rest = (m ≡ u) × (turns ≡ d) × (rest ≡ init)
Follows P _ m turns rest = ⊥

-- what was `turns` + 1 turns ago the value of node m, with the words `rest` after the first turn, is the final value
abbrev pub IsFinal : Draft → Placing → (number m turns : ℕ) → (rest : List ℕ) → Value → Type 0
IsFinal d P number m turns rest (values.Const word) = (turns ≡ 0) × (rest ≡ []) × IsConstant P m word
IsFinal d P number m turns rest (values.Carried other) =
    ((turns ≡ 0) × (rest ≡ []) × Copies P m other) ⊎ Follows P (P.carry other) m turns rest
IsFinal d P number m turns rest value = (turns ≡ 0) × (rest ≡ []) × ((v : ℕ) × (assigned_in d number ≡ Some v) × (P.at (renamed P.map v) ≡ Some m))

-- the operand of a word: in the first turn its initial word, later its final value of the turn before
abbrev pub IsCarry : Draft → Placing → (number : ℕ) → Operand → Type 0
IsCarry d P number (Edge m (suc turns) (word ∷ rest)) = (word ≡ initial_in d number) × IsFinal d P number m turns rest (final_value d P number)
IsCarry d P number _ = ⊥

-- ---- effects

-- in none of the turns a part under this guard acts
abbrev pub Never : Placing → (turns : ℕ) → Option ℕ → Type 0
Never P turns guard = (x : Moment) (E : Words) → Fits P.new x E → x.turn < turns → holds (behind E P.map) guard ≡ false

abbrev pub Always : Placing → (turns : ℕ) → Option ℕ → Type 0
Always P turns guard = (x : Moment) (E : Words) → Fits P.new x E → x.turn < turns → holds (behind E P.map) guard ≡ true

-- the value of number g isn't 0 where the guard holds, and nowhere else
abbrev pub Guards : Placing → (turns : ℕ) → Option ℕ → (g : ℕ) → Type 0
Guards P turns guard g = (x : Moment) (E : Words) → Fits P.new x E → x.turn < turns → holds (behind E P.map) guard ≡ nat_lt 0 (E g)

-- node m stores a word, or sends it
pub record Stores (P : Placing) (turns : ℕ) (guard : Option ℕ) (address word m : ℕ) : Type 0 where
  pub is : (Always P turns guard × Two P m ops.Store 0 address word)
      ⊎ ((g : ℕ) × (g < length P.new) × Guards P turns guard g × Three P m ops.StoreIf g address word)

pub record Sends (P : Placing) (turns : ℕ) (guard : Option ℕ) (port word m : ℕ) : Type 0 where
  pub is : (Always P turns guard × One P m ops.Output port word)
      ⊎ ((g : ℕ) × (g < length P.new) × Guards P turns guard g × Two P m ops.OutputIf port g word)

-- what has become of an effect: its node, if it has one. A load without a node is one of a value that has none or has it
-- already
abbrev pub IsDone : Placing → (turns nodes : ℕ) → Effect → Option ℕ → Type 0
IsDone P turns nodes (Load guard array address value place) None =
    (m : ℕ) → P.at (renamed P.map value) ≡ Some m → m < nodes
IsDone P turns nodes (Load guard array address value place) (Some m) = P.at (renamed P.map value) ≡ Some m
IsDone P turns nodes (Store guard array address word place) None = Never P turns guard
IsDone P turns nodes (Store guard array address word place) (Some m) = Stores P turns guard (renamed P.map address) (renamed P.map word) m
IsDone P turns nodes (Send guard port word) None = Never P turns guard
IsDone P turns nodes (Send guard port word) (Some m) = Sends P turns guard port (renamed P.map word) m

-- a node that neither accesses memory nor sends a word
pub record IsQuiet (P : Placing) (m : ℕ) : Type 0 where
  pub no_access : is_access (node P.kernel m).op ≡ false
  pub no_output : is_output (node P.kernel m).op ≡ false

-- ---- the whole

-- the values and effects of the draft d have their nodes
pub record IsPlaced (d : Draft) (turns : ℕ) (P : Placing) : Type 0 where
  pub stand : AllStand P.new
  -- the numbers of the turns are words, and so are the words that words have when the first turn begins
  pub few : turns ≤ words
  pub initial : (number : ℕ) → initial_in d number < words
  pub renames : Renames d.values P.new turns P.map
  pub values_at : (v m : ℕ) → P.at v ≡ Some m → (v < length P.new) × Computes P m (value_at P.new v)
  pub apart : (u v m : ℕ) → P.at u ≡ Some m → P.at v ≡ Some m → u ≡ v
  pub carried : (number : ℕ) (o : Operand) → P.carry number ≡ Some o → IsCarry d P number o
  pub done : (i : ℕ) (e : Effect) → slice_get d.effects i ≡ Some e → IsDone P turns (P.before i) e (P.done i)
  -- the nodes of effects stand in their order, and there is no other access or output
  pub rising : (i : ℕ) → P.before i ≤ P.before (suc i)
  pub between : (i m : ℕ) → P.done i ≡ Some m → (P.before i ≤ m) × (m < P.before (suc i))
  pub first : P.before 0 ≡ 0
  pub last : P.before (length d.effects) ≤ size P.kernel
  pub quiet : (i m : ℕ) → P.before i ≤ m → m < P.before (suc i) → P.done i ≢ Some m → IsQuiet P m
  pub quiet_after : (m : ℕ) → P.before (length d.effects) ≤ m → IsQuiet P m

-- the array of an effect that accesses one, and whether it stores
abbrev pub access_of : (m : ℕ) → Effect → Option Access
access_of m (Load guard array address value place) = Some (record { node = m; array = array; stores = false })
access_of m (Store guard array address word place) = Some (record { node = m; array = array; stores = true })
access_of m (Send guard port word) = None

-- these are the accesses of the kernel
abbrev pub AreListed : Draft → Placing → List Access → Type 0
AreListed d P accesses = (i m : ℕ) (e : Effect) (a : Access) → slice_get d.effects i ≡ Some e → P.done i ≡ Some m → access_of m e ≡ Some a → Contains accesses a
