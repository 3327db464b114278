-- The words of a turn's values in the turns of a kernel.
use Rattle.std.specs.Prelude.{◌≡◌, ℕ, suc, ◌<◌, List, length, Option, Some, None, slice_index}
use Rattle.cg_word.specs.Word.{words}
use Rattle.cg_model.specs.declared.kernel.Operand.{Operand}
use Rattle.cg_model.specs.Turns.{operand, val}
use Rattle.cg_model.specs.Work.{Image}
use Rattle.cg_c_values.specs.declared.value.Value.TheVariants.{Loaded}
use Rattle.cg_c_values.specs.Values.{Moment, Words, Fits, value_at}
use Rattle.cg_c_forms.specs.Forms.{behind}
use Rattle.cg_c_turn.specs.Draft.{Draft, initial_in}
use Rattle.cg_c_turn.specs.Stands.{word_in}
use Rattle.cg_c_nodes.specs.Placed.{IsOperand, Placing}

-- for each turn and value a memory, from which the value is loaded if it has no node
abbrev pub Memories : Type 0
Memories = (turn value : ℕ) → List ℕ

abbrev pub AreWords : Memories → Type 0
AreWords memories = (t v a : ℕ) → slice_index (memories t v) a < words

-- the words of the new values in each turn: those with nodes have the nodes' words
pub record ValuesRun (d : Draft) (P : Placing) (image : Image) (memories : Memories) (count : ℕ) : Type 0 where
  pub moment : ℕ → Moment
  pub word : ℕ → Words
  pub turn : (t : ℕ) → (moment t).turn ≡ t
  pub streams : (t : ℕ) → (moment t).streams ≡ image.streams
  pub begins : (number : ℕ) → (moment 0).carried number ≡ initial_in d number
  pub next : (t number : ℕ) → (moment (suc t)).carried number ≡ word_in (moment t) (behind (word t) P.map) d number
  pub fits : (t : ℕ) → t < count → Fits P.new (moment t) (word t)
  pub node : (t v m : ℕ) → P.at v ≡ Some m → word t v ≡ val P.kernel image m t
  pub operand_is : (t a : ℕ) (o : Operand) → t < count → a < length P.new → IsOperand P a o → operand (val P.kernel image) t o ≡ word t a
  pub loaded : (t v array version address : ℕ) (guard : Option ℕ) → v < length P.new → value_at P.new v ≡ Loaded array version guard address →
      P.at v ≡ None → word t v ≡ slice_index (memories t v) (word t address)
