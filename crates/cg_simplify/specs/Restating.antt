-- When the texts of nodes may become others.
use Rattle.std.specs.Prelude.{◌≡◌, ℕ, ◌<◌, true, List, [], ◌∷◌, length, Some, slice_get, slice_index}
use Rattle.cg_word.specs.declared.op.Op.TheVariants.{Const}
use Rattle.cg_word.specs.Word.{is_access, is_store}
use Rattle.cg_model.specs.declared.kernel.Node.{Node}
use Rattle.cg_model.specs.declared.kernel.Operand.TheVariants.{Const as Constant, Edge}
use Rattle.cg_model.specs.Kernel.{Kernel, IsKernel, size, node}
use Rattle.cg_model.specs.Work.{Image, IsImage}
use Rattle.cg_model.specs.Turns.{val, work_of}
use Rattle.cg_simplify_draft.specs.Restates.{DoesAs, Restates}
use Rattle.cg_simplify_draft.specs.Settings.{FitsText}
use Rattle.cg_simplify_facts.specs.Suits.{AreOfWords, AreTops, Suits, computes}
use Rattle.cg_simplify.specs.Operands.{Gives, applied}
use Rattle.cg_simplify.specs.declared.restating.Rewriting.{Rewriting}
use Rattle.cg_simplify.specs.declared.restating.Text.{Text}

-- node v of D may get this operation, port and operands: D stays valid, and where D restates K, which has these tops, the
-- node does on K's values what it did
pub record MayBecome (K : Kernel) (tops : List ℕ) (D : Kernel) (v : ℕ) (t : Text) : Type 0 where
  pub inside : v < size D
  pub fits : FitsText D v t.op t.port t.operands
  pub accesses : is_access t.op ≡ true → is_access (node D v).op ≡ true
  pub stores : is_store t.op ≡ true → is_store (node D v).op ≡ true
  pub does : (image : Image) (i : ℕ) → IsKernel K → AreTops K tops → Restates K D → IsImage image →
      DoesAs (work_of (record (node D v) { op = t.op; port = t.port; operands = t.operands }) i (val K image)) (work_of (node D v) i (val K image))

-- the text is that of a `const` of the word
pub record IsConstantText (word : ℕ) (t : Text) : Type 0 where
  pub op : t.op ≡ Const
  pub port : t.port ≡ 0
  pub operands : t.operands ≡ Constant word ∷ []

-- the draft restates K, of which the pairs and tops are
pub record IsFrom (K : Kernel) (r : Rewriting) : Type 0 where
  pub table : r.table ≡ K
  pub tops : AreTops K r.tops.items
  pub restates : Restates K r.draft

-- it stays so for whatever kernel it is so
abbrev pub KeepsWords : Rewriting → Rewriting → Type 0
KeepsWords old new = (K : Kernel) → IsKernel K → IsFrom K old → IsFrom K new

-- n is the `const` of an edge from node v itself, whose initial words, at least one, are all k
pub record IsOwnWord (v : ℕ) (n : Node) (k : ℕ) : Type 0 where
  pub distance : ℕ
  pub init : List ℕ
  pub op : n.op ≡ Const
  pub operand : slice_get n.operands 0 ≡ Some (Edge v distance init)
  pub some : 0 < length init
  pub all : (j : ℕ) → j < length init → slice_index init j ≡ k

-- n, which is node v, computes: on all words that suit, and for v are what it computes, it has the word k in each turn
pub record HasWord (nodes : List Node) (tops : List ℕ) (v : ℕ) (n : Node) (k : ℕ) : Type 0 where
  pub computing : computes n.op ≡ true
  pub value : (V : ℕ → ℕ → ℕ) → AreOfWords n.operands → Suits nodes tops V →
      ((i : ℕ) → V v i ≡ applied V i n) → (i : ℕ) → V v i ≡ k

-- node v of D computes, and where D restates K, which has these tops, it has the word k in each turn
pub record HasWordAt (K : Kernel) (tops : List ℕ) (D : Kernel) (v k : ℕ) : Type 0 where
  pub inside : v < size D
  pub computing : computes (node D v).op ≡ true
  pub gives : IsKernel K → AreTops K tops → Restates K D → Gives K v (Constant k)
