-- Words for the nodes of a kernel in each turn, and what is known of them.
use Rattle.std.specs.Prelude.{◌≡◌, ℕ, ◌<◌, ◌≤◌, Bool, true, false, List, length, map, Some, slice_get, slice_index, slice_index_or}
use Rattle.cg_word.specs.declared.op.Op.{Op}
use Rattle.cg_word.specs.declared.op.Op.TheVariants.{Const, Iter, Input, Load, Store, Output, LoadIf, StoreIf, OutputIf}
use Rattle.cg_word.specs.Word.{words}
use Rattle.cg_simplify_facts.specs.declared.facts.Facts.{Facts}
use Rattle.cg_simplify_facts.specs.Facts.{AreFacts, Fits}
use Rattle.cg_simplify_facts.specs.declared.facts.Fact.{Fact}
use Rattle.cg_model.specs.declared.kernel.Node.{Node}
use Rattle.cg_model.specs.declared.kernel.Operand.{Operand}
use Rattle.cg_model.specs.declared.kernel.Operand.TheVariants.{Const as Constant, Edge}
use Rattle.cg_model.specs.Kernel.{Kernel, no_node}
use Rattle.cg_model.specs.Turns.{operand, val}
use Rattle.cg_model.specs.Work.{Image, IsImage}

-- the operations whose value is computed from their operands alone
abbrev pub computes : Op → Bool
computes Iter = false
computes Input = false
computes Load = false
computes Store = false
computes Output = false
computes LoadIf = false
computes StoreIf = false
computes OutputIf = false
computes _ = true

-- node u of the list
abbrev pub item : List Node → ℕ → Node
item nodes u = slice_index_or nodes u no_node

-- node u is the `const` of the constant k
pub record IsConstOf (nodes : List Node) (u k : ℕ) : Type 0 where
  pub there : u < length nodes
  pub op : (item nodes u).op ≡ Const
  pub constant : slice_get (item nodes u).operands 0 ≡ Some (Constant k)

-- V has a word for each node in each turn: that of a constant's `const` is the constant, and none is above the node's
-- top, where it has one
pub record Suits (nodes : List Node) (tops : List ℕ) (V : ℕ → ℕ → ℕ) : Type 0 where
  pub small : (u i : ℕ) → V u i < words
  pub below : (u i : ℕ) → V u i ≤ slice_index_or tops u 4294967295
  pub constant : (u k i : ℕ) → IsConstOf nodes u k → V u i ≡ k

-- an operand has words alone, and an initial word for each of its turns
abbrev pub IsOfWords : Operand → Type 0
IsOfWords (Constant c) = c < words
IsOfWords (Edge u d init) = (length init ≡ d) × ((k : ℕ) → slice_index init k < words)

abbrev pub AreOfWords : List Operand → Type 0
AreOfWords operands = (p : ℕ) (o : Operand) → slice_get operands p ≡ Some o → IsOfWords o

-- on all words that suit, this is known of an operand
abbrev pub IsFactOf : List Node → List ℕ → Operand → Fact → Type 0
IsFactOf nodes tops o f = (V : ℕ → ℕ → ℕ) (i : ℕ) → Suits nodes tops V → Fits f (operand V i o)

-- the word of operand number p in turn i; 0 past the last
abbrev pub word_of : (ℕ → ℕ → ℕ) → ℕ → List Operand → ℕ → ℕ
word_of V i operands p = slice_index (map (operand V i) operands) p

-- on all words that suit, this is known of the operands
abbrev pub AreFactsOf : List Node → List ℕ → List Operand → Facts → Type 0
AreFactsOf nodes tops operands f =
    (V : ℕ → ℕ → ℕ) (i : ℕ) → Suits nodes tops V → AreFacts f (word_of V i operands 0) (word_of V i operands 1) (word_of V i operands 2)

-- tops by node, for the values of K in every run from an image
abbrev pub AreTops : Kernel → List ℕ → Type 0
AreTops K tops = (image : Image) → IsImage image → Suits K.nodes tops (val K image)
