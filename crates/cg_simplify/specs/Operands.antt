-- When one operand may take the place of another.
use Rattle.std.specs.Prelude.{◌≡◌, ℕ, ◌<◌, ◌≤◌, ◌+◌, ◌++◌, ◌⊎◌, Bool, true, false, nat_lt, List, length, Some, slice_get, slice_index}
use Rattle.cg_word.specs.Word.{apply_of}
use Rattle.cg_word.specs.declared.op.Op.{Op}
use Rattle.cg_word.specs.declared.op.Op.TheVariants.{LoadIf, OutputIf, Select, StoreIf}
use Rattle.cg_model.specs.Limits.{most_distance}
use Rattle.cg_model.specs.declared.kernel.Operand.{Operand}
use Rattle.cg_model.specs.declared.kernel.Operand.TheVariants.{Const as Constant, Edge}
use Rattle.cg_model.specs.declared.kernel.Node.{Node}
use Rattle.cg_model.specs.Kernel.{Kernel, HasOperand, IsKernel, size, node}
use Rattle.cg_model.specs.Work.{Image, IsImage}
use Rattle.cg_model.specs.Turns.{operand, val, work_of}
use Rattle.cg_simplify_draft.specs.Restates.{DoesAs, Restates}
use Rattle.cg_simplify_draft.specs.Settings.{Fits, with_operand}
use Rattle.cg_simplify_facts.specs.Suits.{AreOfWords, AreTops, Suits, computes, word_of}

-- in every run of K from an image the two operands have the same word in each turn
abbrev pub IsAlike : Kernel → Operand → Operand → Type 0
IsAlike K o p = (image : Image) (i : ℕ) → IsImage image → operand (val K image) i o ≡ operand (val K image) i p

-- in every run of K from an image node w has in each turn the word of operand o
abbrev pub Gives : Kernel → ℕ → Operand → Type 0
Gives K w o = (image : Image) (i : ℕ) → IsImage image → val K image w i ≡ operand (val K image) i o

-- in every run of K from an image the two operands are 0 in the same turns
abbrev pub AreZeroAlike : Kernel → Operand → Operand → Type 0
AreZeroAlike K o p =
    (image : Image) (i : ℕ) → IsImage image → nat_lt 0 (operand (val K image) i o) ≡ nat_lt 0 (operand (val K image) i p)

-- in every run of K from an image node w is 0 in the turns in which operand o is
abbrev pub IsZeroWith : Kernel → ℕ → Operand → Type 0
IsZeroWith K w o = (image : Image) (i : ℕ) → IsImage image → nat_lt 0 (val K image w i) ≡ nat_lt 0 (operand (val K image) i o)

-- L has the nodes of K, but that operands may be others, alike to those of K
pub record Exchanges (K L : Kernel) : Type 0 where
  pub sized : size L ≡ size K
  pub named : (v : ℕ) → v < size L → (node L v).name ≡ (node K v).name
  pub ops : (v : ℕ) → v < size L → (node L v).op ≡ (node K v).op
  pub ports : (v : ℕ) → v < size L → (node L v).port ≡ (node K v).port
  pub counts : (v : ℕ) → v < size L → length (node L v).operands ≡ length (node K v).operands
  pub alike : (v p : ℕ) (o q : Operand) → v < size L → HasOperand K v p o → HasOperand L v p q → IsAlike K o q

-- o may take the place of operand p of node v of D: D stays valid, and where D restates a kernel with these tops, the
-- node does on the kernel's values what it did
pub record MayReplace (tops : List ℕ) (D : Kernel) (v p : ℕ) (o : Operand) : Type 0 where
  pub inside : v < size D
  pub place : p < length (node D v).operands
  pub fits : Fits D v p o
  pub does : (K : Kernel) (image : Image) (i : ℕ) → IsKernel K → AreTops K tops → Restates K D → IsImage image →
      DoesAs (work_of (node (with_operand D v p o) v) i (val K image)) (work_of (node D v) i (val K image))

-- node w of D has an operand x, and the words of x in every run of whatever kernel with these tops D restates
pub record StandsFor (tops : List ℕ) (D : Kernel) (w : ℕ) (x : Operand) : Type 0 where
  pub place : ℕ
  pub there : HasOperand D w place x
  pub gives : (K : Kernel) → IsKernel K → AreTops K tops → Restates K D → Gives K w x

-- node w of D has an operand x, an edge, which in every run of whatever kernel with these tops D restates is 0 in the
-- turns in which the node's value is
pub record TestsAs (tops : List ℕ) (D : Kernel) (w : ℕ) (x : Operand) : Type 0 where
  pub place : ℕ
  pub there : HasOperand D w place x
  pub is_edge : (c : ℕ) → x ≡ Constant c → ⊥
  pub tests : (K : Kernel) → IsKernel K → AreTops K tops → Restates K D → IsZeroWith K w x

-- the operations that only test whether their first operand is 0
abbrev pub is_tested : Op → Bool
is_tested Select = true
is_tested LoadIf = true
is_tested StoreIf = true
is_tested OutputIf = true
is_tested _ = false

-- an edge from node w to operand p of node v of D may look through w to x: w has the words of x, or it is only tested
-- whether the operand is 0, and w is 0 where x is
abbrev pub LooksTo : List ℕ → Kernel → ℕ → ℕ → ℕ → Operand → Type 0
LooksTo tops D v p w x =
    StandsFor tops D w x ⊎ ((p ≡ 0) × (is_tested (node D v).op ≡ true) × TestsAs tops D w x)

-- what the operation of n gives for the words of its operands in turn i
abbrev pub applied : (ℕ → ℕ → ℕ) → ℕ → Node → ℕ
applied V i n = apply_of n.op (word_of V i n.operands 0) (word_of V i n.operands 1) (word_of V i n.operands 2)

-- x is an operand of n, which has at most three and computes: on all words that suit, its value is the word of x
pub record IsValueOf (nodes : List Node) (tops : List ℕ) (n : Node) (x : Operand) : Type 0 where
  pub computing : computes n.op ≡ true
  pub place : ℕ
  pub there : slice_get n.operands place ≡ Some x
  pub value : (V : ℕ → ℕ → ℕ) (i : ℕ) → length n.operands ≤ 3 → AreOfWords n.operands → Suits nodes tops V →
      applied V i n ≡ operand V i x

-- operand number `place` of n is x, an edge
pub record IsEdgeAt (n : Node) (place : ℕ) (x : Operand) : Type 0 where
  pub there : slice_get n.operands place ≡ Some x
  pub is_edge : (c : ℕ) → x ≡ Constant c → ⊥

-- n compares with 0 the edge x, one of its at most three operands: on all words that suit, its operation has the value
-- that it has for the word of x and 0
pub record ComparesWithZero (nodes : List Node) (tops : List ℕ) (n : Node) (x : Operand) : Type 0 where
  pub computing : computes n.op ≡ true
  pub place : ℕ
  pub there : slice_get n.operands place ≡ Some x
  pub is_edge : (c : ℕ) → x ≡ Constant c → ⊥
  pub value : (V : ℕ → ℕ → ℕ) (i : ℕ) → AreOfWords n.operands → Suits nodes tops V →
      applied V i n ≡ apply_of n.op (operand V i x) 0 0

-- all initial words are c, and none of the operands is a constant
pub record BecomesWord (operands : List Operand) (init : List ℕ) (c : ℕ) : Type 0 where
  pub all : (j : ℕ) → j < length init → slice_index init j ≡ c
  pub none : (p b : ℕ) → slice_get operands p ≡ Some (Constant b) → ⊥

-- o is what an edge among the operands becomes, whose source has the words of the operand x: x if it is a constant, which
-- all initial words are and none of the operands, else the edge over both, of at most 4 turns
abbrev pub IsThrough : List Operand → Operand → Operand → Operand → Type 0
IsThrough operands (Edge w d init) (Constant c) o = (o ≡ Constant c) × BecomesWord operands init c
IsThrough operands (Edge w d init) (Edge u e more) o = (o ≡ Edge u (d + e) (init ++ more)) × (d + e ≤ most_distance)
IsThrough operands (Constant b) x o = ⊥
