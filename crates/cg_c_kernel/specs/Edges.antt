-- The edges of words that are carried from turn to turn.
use Rattle.std.specs.Prelude.{◌≡◌, ◌⊎◌, ℕ, Bool, true, false, List, [], ◌∷◌, Option, Some, None, slice_index, slice_index_or}
use Rattle.cg_word.specs.declared.op.Op.TheVariants as ops
use Rattle.cg_c_values.specs.declared.value.Value.{Value}
use Rattle.cg_c_values.specs.declared.value.Value.TheVariants as values
use Rattle.cg_c_values.specs.Values.{value_at}
use Rattle.cg_c_kernel.specs.Live.{final_in, has_mark}
use Rattle.cg_c_kernel.specs.Made.{Made, Is, One, Word, Carried, node_in}
use Rattle.cg_c_kernel.specs.declared.edges.Edge.{Edge}

-- the edge of a word, if it has one
abbrev pub edge_in : List (Option Edge) → (number : ℕ) → Option Edge
edge_in edges number = slice_index_or edges number None

abbrev pub is_there : Option Edge → Bool
is_there None = false
is_there (Some edge) = true

abbrev pub has_edge : List (Option Edge) → (number : ℕ) → Bool
has_edge edges number = is_there (edge_in edges number)

-- the edge spans a turn more, at first with this word
abbrev pub IsOneMore : Option Edge → (word : ℕ) → Edge → Type 0
IsOneMore None word e = ⊥
IsOneMore (Some next) word e = (e.from ≡ next.from) × (e.words.items ≡ word ∷ next.words.items)

-- ---- what an edge leads to

-- the node and the words after the first are those of this edge
abbrev pub Continues : Option Edge → (from : ℕ) → (rest : List ℕ) → Type 0
Continues None from rest = ⊥
Continues (Some next) from rest = (from ≡ next.from) × (rest ≡ next.words.items)

-- the edge begins at a copy of a word, or goes on with that of the word
abbrev pub IsFollowed : Made → List (Option Edge) → (number from : ℕ) → (rest : List ℕ) → Type 0
IsFollowed s edges number from rest = ((rest ≡ []) × Is s from ops.Const 0 (One (Carried number))) ⊎ Continues (edge_in edges number) from rest

-- the edge has the value v, a turn later
abbrev pub IsFinal : Made → List (Option Edge) → (v from : ℕ) → (rest : List ℕ) → Value → Type 0
IsFinal s edges v from rest (values.Const word) = (rest ≡ []) × Is s from ops.Const 0 (One (Word word))
IsFinal s edges v from rest (values.Carried number) = IsFollowed s edges number from rest
IsFinal s edges v from rest value = (rest ≡ []) × (node_in s v ≡ Some from)

-- the edge of a word that begins with `word` and becomes word `number`
pub record IsEdgeAfter (s : Made) (edges : List (Option Edge)) (number word : ℕ) (e : Edge) : Type 0 where
  pub rest : List ℕ
  pub words : e.words.items ≡ word ∷ rest
  pub followed : IsFollowed s edges number e.from rest

-- the edge of a word that begins with `word` and becomes the value v
pub record IsEdgeTo (old : List Value) (s : Made) (edges : List (Option Edge)) (v word : ℕ) (e : Edge) : Type 0 where
  pub rest : List ℕ
  pub words : e.words.items ≡ word ∷ rest
  pub final : IsFinal s edges v e.from rest (value_at old v)

-- ---- all edges

-- the edge of a word that begins with `word`, as far as the word is assigned
abbrev pub IsEdge : List Value → Made → List (Option Edge) → (number : ℕ) → Option ℕ → (word : ℕ) → Edge → Type 0
IsEdge old s edges number None word e = IsEdgeAfter s edges number word e
IsEdge old s edges number (Some v) word e = IsEdgeTo old s edges v word e

-- each edge is one of its word
pub record AreEdges (old : List Value) (finals : List (Option ℕ)) (initial : List ℕ) (s : Made) (edges : List (Option Edge)) : Type 0 where
  pub each : (number : ℕ) (e : Edge) → edge_in edges number ≡ Some e → IsEdge old s edges number (final_in finals number) (slice_index initial number) e

-- edges were added
abbrev pub KeepsEdges : (before after : List (Option Edge)) → Type 0
KeepsEdges before after = (number : ℕ) (e : Edge) → edge_in before number ≡ Some e → edge_in after number ≡ Some e

-- the value v, if it is a live word that is carried, has an edge
abbrev pub IsSettled : List Value → List Bool → List (Option Edge) → (v : ℕ) → Type 0
IsSettled old marks edges v = (number : ℕ) → value_at old v ≡ values.Carried number → has_mark marks v ≡ true → has_edge edges number ≡ true
