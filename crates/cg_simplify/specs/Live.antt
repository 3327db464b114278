-- Nodes that are marked to stay, and the numbers that they get.
use Rattle.std.specs.Prelude.{◌≡◌, ℕ, ◌<◌, ◌≤◌, ◌||◌, Bool, true, false, List, length, map, slice_index, slice_index_or}
use Rattle.cg_word.specs.declared.op.Op.{Op}
use Rattle.cg_word.specs.Word.{is_store, is_output}
use Rattle.cg_model.specs.declared.kernel.Node.{Node}
use Rattle.cg_model.specs.declared.kernel.Operand.{Operand}
use Rattle.cg_model.specs.declared.kernel.Operand.TheVariants.{Const as Constant, Edge}
use Rattle.cg_model.specs.Kernel.{Kernel, HasOperand, node, size}

-- it stores or outputs, guarded or not
abbrev pub has_effect : Op → Bool
has_effect op = is_store op || is_output op

-- node u is marked
abbrev pub is_marked : List Bool → ℕ → Bool
is_marked marks u = slice_index_or marks u false

-- the source of an operand is marked
abbrev pub is_fed : List Bool → Operand → Bool
is_fed marks (Constant w) = true
is_fed marks (Edge u d init) = is_marked marks u

-- what has to be seen of node v: a node with an effect is marked, and so are the sources of a marked node
pub record IsSettled (K : Kernel) (marks : List Bool) (v : ℕ) : Type 0 where
  pub effect : has_effect (node K v).op ≡ true → is_marked marks v ≡ true
  pub fed : (p : ℕ) (o : Operand) → is_marked marks v ≡ true → HasOperand K v p o → is_fed marks o ≡ true

-- marks by node: all nodes from which a chain of operands leads to a store or output are marked
pub record AreMarked (K : Kernel) (marks : List Bool) : Type 0 where
  pub long : length marks ≡ size K
  pub each : (v : ℕ) → v < size K → IsSettled K marks v

-- `kept` are the marked ones of n nodes, ascending, and `numbers` has the place of each of them there
pub record AreNumbered (n : ℕ) (marks : List Bool) (kept numbers : List ℕ) : Type 0 where
  pub long : length numbers ≡ n
  pub few : length kept ≤ n
  pub below : (k : ℕ) → k < length kept → slice_index kept k < n
  pub marked : (k : ℕ) → k < length kept → is_marked marks (slice_index kept k) ≡ true
  pub inside : (u : ℕ) → u < n → is_marked marks u ≡ true → slice_index numbers u < length kept
  pub back : (u : ℕ) → u < n → is_marked marks u ≡ true → slice_index kept (slice_index numbers u) ≡ u
  pub rising : (j k : ℕ) → j < k → k < length kept → slice_index kept j < slice_index kept k

-- an operand and a node with other numbers
abbrev pub moved : List ℕ → Operand → Operand
moved numbers (Constant w) = Constant w
moved numbers (Edge u d init) = Edge (slice_index numbers u) d init

abbrev pub moved_node : List ℕ → Node → Node
moved_node numbers N = record { name = N.name; op = N.op; port = N.port; operands = map (moved numbers) N.operands }
