-- The nodes of the kernel from the nodes that were made.
use Rattle.std.specs.Prelude.{◌≡◌, ℕ, ◌+◌, ◌-◌, ◌<◌, List, [], ◌∷◌, length, Option, Some, None, slice_index_or}
use Rattle.cg_word.specs.declared.op.Op.TheVariants as ops
use Rattle.cg_word.specs.Word.{words}
use Rattle.cg_model.specs.declared.kernel.Operand.{Operand}
use Rattle.cg_model.specs.declared.kernel.Operand.TheVariants.{Const as Constant, Edge as AnEdge}
use Rattle.cg_model.specs.declared.kernel.Node.{Node}
use Rattle.cg_model.specs.Kernel.{no_node}
use Rattle.cg_c_kernel.specs.Made.{Ref, Refs, Zero, One, Two, Three, Word, Now, Rotation, Remainder, Quotient, Carried, Sketch, sketch}
use Rattle.cg_c_kernel.specs.Edges.{edge_in}
use Rattle.cg_c_kernel.specs.declared.edges.Edge.{Edge}

-- the operand of a word with this edge
abbrev pub carried_by : Option Edge → Operand
carried_by None = Constant 0
carried_by (Some e) = AnEdge e.from (length e.words.items) e.words.items

abbrev pub built_of : List (Option Edge) → Ref → Operand
built_of edges (Word word) = Constant word
built_of edges (Now m) = AnEdge m 0 []
built_of edges (Rotation m) = AnEdge m 3 (0 ∷ 1 ∷ 2 ∷ [])
built_of edges (Remainder m) = AnEdge (m + 3) 2 ((words - 2) ∷ (words - 1) ∷ [])
built_of edges (Quotient m) = AnEdge (m + 4) 2 ((words - 1) ∷ (words - 1) ∷ [])
built_of edges (Carried number) = carried_by (edge_in edges number)

abbrev pub all_built_of : List (Option Edge) → Refs → List Operand
all_built_of edges Zero = []
all_built_of edges (One a) = built_of edges a ∷ []
all_built_of edges (Two a b) = built_of edges a ∷ built_of edges b ∷ []
all_built_of edges (Three a b c) = built_of edges a ∷ built_of edges b ∷ built_of edges c ∷ []

-- a node of the kernel is this one that was made
pub record IsBuilt (edges : List (Option Edge)) (x : Sketch) (n : Node) : Type 0 where
  pub op : n.op ≡ x.op
  pub port : n.port ≡ x.port
  pub operands : n.operands ≡ all_built_of edges x.operands

abbrev pub sketch_at : List Sketch → ℕ → Sketch
sketch_at xs m = slice_index_or xs m (sketch ops.Const 0 Zero)

-- the nodes of the kernel are those that were made
pub record AreBuilt (edges : List (Option Edge)) (xs : List Sketch) (nodes : List Node) : Type 0 where
  pub long : length nodes ≡ length xs
  pub each : (m : ℕ) → m < length xs → IsBuilt edges (sketch_at xs m) (slice_index_or nodes m no_node)
