-- Nodes with the same values, and a kernel in which edges come from one of them.
use Rattle.std.specs.Prelude.{◌≡◌, ℕ, ◌<◌, ◌≤◌, ◌⊎◌, Bool, true, false, eqb, nat_lt, if◌then◌else◌, List, length, Option, Some, None, slice_get, slice_index}
use Rattle.cg_word.specs.declared.op.Op.{Op}
use Rattle.cg_word.specs.declared.op.Op.TheVariants.{Add, And, Eq, Maxs, Mins, Mul, Ne, Or, Xor}
use Rattle.cg_word.specs.Word.{has_value}
use Rattle.cg_model.specs.declared.kernel.Node.{Node}
use Rattle.cg_model.specs.declared.kernel.Operand.{Operand}
use Rattle.cg_model.specs.declared.kernel.Operand.TheVariants.{Const as Constant, Edge}
use Rattle.cg_model.specs.Kernel.{Kernel, node}
use Rattle.cg_model.specs.Work.{Image, IsImage}
use Rattle.cg_model.specs.Turns.{val}
use Rattle.cg_depend.specs.declared.table.AffinePair.{AffinePair}
use Rattle.cg_depend.specs.Affine.{affine_of, at_turn}
use Rattle.cg_simplify.specs.Live.{is_marked}

-- in every run of K from an image the two nodes have the same value in each turn
abbrev pub SameValues : Kernel → ℕ → ℕ → Type 0
SameValues K n m = (image : Image) (i : ℕ) → IsImage image → val K image n i ≡ val K image m i

-- node n is like node m of K, which isn't later, has a value if n has one, and in every run from an image the same
-- values
pub record IsLike (K : Kernel) (n m : ℕ) : Type 0 where
  pub before : m ≤ n
  pub valued : has_value (node K n).op ≡ true → has_value (node K m).op ≡ true
  pub same : SameValues K n m

-- a table with a node for each of the first nodes of K, which these are like
abbrev pub AreLike : Kernel → List ℕ → Type 0
AreLike K table = (n : ℕ) → n < length table → IsLike K n (slice_index table n)

-- node v of K has this base and stride, and in every run the value that they give for each turn
pub record HasPair (K : Kernel) (v : ℕ) (p : AffinePair) : Type 0 where
  pub is : affine_of K v ≡ Some p
  pub runs : (image : Image) (i : ℕ) → val K image v i ≡ at_turn p i

-- the operations whose first two operands may be exchanged
abbrev pub commutes : Op → Bool
commutes Add = true
commutes Mul = true
commutes And = true
commutes Or = true
commutes Xor = true
commutes Eq = true
commutes Ne = true
commutes Mins = true
commutes Maxs = true
commutes _ = false

-- what the source u of an edge to node n counts as: none if it is n itself, an earlier node as what it is like, and a
-- later one as itself
abbrev pub counts_as : List ℕ → ℕ → ℕ → Option ℕ
counts_as like n u = if eqb u n then None else (if nat_lt u n then Some (slice_index like u) else Some u)

-- operand a of node m is operand b of node n up to what nodes are like
abbrev pub IsSame : List ℕ → ℕ → Operand → ℕ → Operand → Type 0
IsSame like m (Constant c) n (Constant d) = c ≡ d
IsSame like m (Constant c) n (Edge w e more) = ⊥
IsSame like m (Edge u d init) n (Constant c) = ⊥
IsSame like m (Edge u d init) n (Edge w e more) = (counts_as like m u ≡ counts_as like n w) × (d ≡ e) × (init ≡ more)

-- so are all operands of m and n
pub record AreSame (like : List ℕ) (m : ℕ) (xs : List Operand) (n : ℕ) (ys : List Operand) : Type 0 where
  pub long : length xs ≡ length ys
  pub each : (p : ℕ) (a b : Operand) → slice_get xs p ≡ Some a → slice_get ys p ≡ Some b → IsSame like m a n b

-- so are operands 0 and 1 of m, and 1 and 0 of n
pub record AreCrossed (like : List ℕ) (m : ℕ) (xs : List Operand) (n : ℕ) (ys : List Operand) : Type 0 where
  pub first : (a b : Operand) → slice_get xs 0 ≡ Some a → slice_get ys 1 ≡ Some b → IsSame like m a n b
  pub second : (a b : Operand) → slice_get xs 1 ≡ Some a → slice_get ys 0 ≡ Some b → IsSame like m a n b

-- nodes m and n have one operation, port and operands up to what nodes are like, in either order where the operation
-- commutes
pub record SameText (like : List ℕ) (m : ℕ) (first : Node) (n : ℕ) (second : Node) : Type 0 where
  pub op : first.op ≡ second.op
  pub port : first.port ≡ second.port
  pub operands : AreSame like m first.operands n second.operands ⊎ ((commutes first.op ≡ true) × AreCrossed like m first.operands n second.operands)

-- where edges from node v are moved to: from an index node nowhere, from another to the node that it is like
abbrev pub target : List ℕ → List Bool → ℕ → ℕ
target like index v = if is_marked index v then v else slice_index like v

-- where they are moved to in two steps
pub record AreTargets (like : List ℕ) (index : List Bool) (into : List ℕ) : Type 0 where
  pub long : length into ≡ length like
  pub each : (v : ℕ) → v < length like → slice_index into v ≡ target like index (target like index v)
