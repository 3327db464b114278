-- Nodes placed so far, and the moves that may make room for the next one.
use Rattle.std.specs.Prelude.{◌≡◌, ℕ, ◌+◌, ◌*◌, ◌<◌, ◌≤◌, ◌⊎◌, ◌||◌, eqb, Bool, true, false, List, [], length, Option, Some, None, slice_index, slice_index_or}
use Rattle.cg_word.specs.declared.op.Op.{Op}
use Rattle.cg_word.specs.Word.{code}
use Rattle.cg_word.specs.Sets.{among}
use Rattle.cg_model.specs.declared.kernel.Node.{Node}
use Rattle.cg_model.specs.Kernel.{no_node}
use Rattle.cg_model.specs.declared.array.Unit.{Unit}
use Rattle.cg_class.specs.declared.search.Move.{Move}
use Rattle.cg_class.specs.declared.search.Found.{Found}
use Rattle.cg_class.specs.declared.search.Found.TheVariants.{Room, Full}
use Rattle.cg_class.specs.Class.{nodes_in, units_for, load}

-- the operation of node v
abbrev pub op_at : List Node → ℕ → Op
op_at nodes v = (slice_index_or nodes v no_node).op

-- the unit past the last one
abbrev pub no_unit : Unit
no_unit = record { name = []; ops = []; latency = 1; ports = []; out = 0 }

-- the operations of unit x
abbrev pub ops_at : List Unit → ℕ → List Op
ops_at units x = (slice_index_or units x no_unit).ops

-- a set with one more operation
abbrev pub IsWith : List Op → Op → List Op → Type 0
IsWith s op t = (o : Op) → among t o ≡ (eqb (code op) (code o) || among s o)

-- the first nodes, each on a unit that offers its operation, at most ii on each unit
pub record IsPlaced (nodes : List Node) (units : List Unit) (ii : ℕ) (places : List ℕ) : Type 0 where
  pub some : length places ≤ length nodes
  pub known : (v : ℕ) → v < length places → slice_index places v < length units
  pub offered : (v : ℕ) → v < length places → among (ops_at units (slice_index places v)) (op_at nodes v) ≡ true
  pub room : (x : ℕ) → x < length units → load places x ≤ ii

-- the move past the last one
abbrev pub no_move : Move
no_move = record { unit = 0; node = 0; before = 0 }

-- move i
abbrev pub move : List Move → ℕ → Move
move log i = slice_index_or log i no_move

-- unit x is reached
abbrev pub is_seen : List Bool → ℕ → Bool
is_seen seen x = slice_index_or seen x false

-- move i brings a node to a unit that offers its operation: the new node, or one that is on the unit of an earlier move
pub record IsMove (nodes : List Node) (units : List Unit) (places : List ℕ) (log : List Move) (i : ℕ) (m : Move) : Type 0 where
  pub unit : m.unit < length units
  pub offered : among (ops_at units m.unit) (op_at nodes m.node) ≡ true
  pub from : ((m.before ≡ i) × (m.node ≡ length places)) ⊎ ((m.before < i) × (m.node < length places) × (slice_index places m.node ≡ (move log m.before).unit))

-- each unit reached has one move
pub record IsLogged (nodes : List Node) (units : List Unit) (places : List ℕ) (log : List Move) (seen : List Bool) : Type 0 where
  pub moves : (i : ℕ) → i < length log → IsMove nodes units places log i (move log i)
  pub apart : (i j : ℕ) → i < j → j < length log → (move log i).unit ≡ (move log j).unit → ⊥
  pub each : length seen ≡ length units
  pub marked : (x : ℕ) → x < length units → is_seen seen x ≡ true → (i : ℕ) × (i < length log) × ((move log i).unit ≡ x)
  pub marks : (i : ℕ) → i < length log → is_seen seen (move log i).unit ≡ true

-- the origin of a move of a node
abbrev pub IsFrom : List ℕ → List Move → ℕ → Option ℕ → Type 0
IsFrom places log node None = node ≡ length places
IsFrom places log node (Some b) = (node < length places) × (b < length log) × (slice_index places node ≡ (move log b).unit)

-- after all units that offer an operation were reached
pub record IsSpread (nodes : List Node) (units : List Unit) (places : List ℕ) (log : List Move) (seen : List Bool) (log' : List Move) (seen' : List Bool) (k : Op) : Type 0 where
  pub good : IsLogged nodes units places log' seen'
  pub longer : length log ≤ length log'
  pub kept : (i : ℕ) → i < length log → move log' i ≡ move log i
  pub still : (x : ℕ) → is_seen seen x ≡ true → is_seen seen' x ≡ true
  pub covers : (x : ℕ) → x < length units → among (ops_at units x) k ≡ true → is_seen seen' x ≡ true

-- the search up to move h: the operations of `done` reach no unit that isn't seen, and the units before are full of
-- nodes with these operations
pub record IsSearch (nodes : List Node) (units : List Unit) (ii : ℕ) (places : List ℕ) (log : List Move) (seen : List Bool) (done : List Op) (h : ℕ) : Type 0 where
  pub logged : IsLogged nodes units places log seen
  pub closed : (k : Op) → among done k ≡ true → (x : ℕ) → x < length units → among (ops_at units x) k ≡ true → is_seen seen x ≡ true
  pub first : among done (op_at nodes (length places)) ≡ true
  pub own : (k : Op) → among done k ≡ true → (v : ℕ) × (v < length nodes) × (op_at nodes v ≡ k)
  pub within : h ≤ length log
  pub full : (i : ℕ) → i < h → ii ≤ load places (move log i).unit
  pub passed : (i w : ℕ) → i < h → w < length places → slice_index places w ≡ (move log i).unit → among done (op_at nodes w) ≡ true

-- the visit of the nodes on unit x, that of move h, after those before node w
pub record IsVisit (nodes : List Node) (units : List Unit) (ii : ℕ) (places : List ℕ) (log : List Move) (seen : List Bool) (done : List Op) (h x w : ℕ) : Type 0 where
  pub searched : IsSearch nodes units ii places log seen done h
  pub inside : h < length log
  pub here : (move log h).unit ≡ x
  pub loaded : ii ≤ load places x
  pub kept : (v : ℕ) → v < w → slice_index places v ≡ x → among done (op_at nodes v) ≡ true

-- moves to a unit with room
abbrev pub HasMoves : List Node → List Unit → ℕ → List ℕ → List Move → ℕ → Type 0
HasMoves nodes units ii places log h = (seen : List Bool) × IsLogged nodes units places log seen × (h < length log) × (load places (move log h).unit < ii)

-- the result of a visit of move h: its unit has room, or the search continues with the next move
abbrev pub IsVisited : List Node → List Unit → ℕ → List ℕ → List Move → List Bool → ℕ → Option (List Op) → Type 0
IsVisited nodes units ii places log seen h None = HasMoves nodes units ii places log h
IsVisited nodes units ii places log seen h (Some done) = IsSearch nodes units ii places log seen done (h + 1)

-- there are more nodes with an operation of the set than its units can take, and each of its operations is that of a
-- node
abbrev pub IsFullSet : List Node → List Unit → ℕ → List Op → Type 0
IsFullSet nodes units ii s = (ii * units_for units s < nodes_in nodes s) × ((k : Op) → among s k ≡ true → (v : ℕ) × (v < length nodes) × (op_at nodes v ≡ k))

-- the result of a search for room
abbrev pub IsFound : List Node → List Unit → ℕ → List ℕ → Found → Type 0
IsFound nodes units ii places (Room log h) = HasMoves nodes units ii places log.items h
IsFound nodes units ii places (Full s) = IsFullSet nodes units ii s
