-- The words of values in the turns of a kernel.
use Rattle.std.proofs.Common.{◌≡◌, ℕ, ◌<◌, ◌∙◌, ap, length, refl}
use Rattle.std.specs.Prelude.{Option, None, slice_index}
use Rattle.cg_model.specs.Kernel.{IsKernel}
use Rattle.cg_model.specs.Work.{Image, IsImage}
use Rattle.cg_c_values.specs.declared.value.Value.TheVariants.{Loaded}
use Rattle.cg_c_values.specs.Values.{value_at}
use Rattle.cg_c_turn.specs.Draft.{Draft, initial_in}
use Rattle.cg_c_turn.specs.Stands.{IsFormed}
use Rattle.cg_c_nodes.specs.Placed.{IsPlaced, Placing}
use Rattle.cg_c_nodes.specs.Running.{AreWords, Memories, ValuesRun}
use Rattle.cg_c_nodes.proofs.WordsMade.{carried_at, made_word, moment_at, word_by, words_at}
use Rattle.cg_c_nodes.proofs.WordsCarried.{next_is, node_word, operand_has}
use Rattle.cg_c_nodes.proofs.WordsFit.{fit}

first_is : (d : Draft) (P : Placing) (image : Image) (memories : Memories) (number : ℕ) → carried_at d P image memories 0 number ≡ initial_in d number
unfolding carried_at
first_is d P image memories number = refl

loaded_is : (d : Draft) (count : ℕ) (P : Placing) (image : Image) (memories : Memories) → IsPlaced d count P →
    (t v array version address : ℕ) (guard : Option ℕ) → v < length P.new → value_at P.new v ≡ Loaded array version guard address → P.at v ≡ None →
    words_at d P image memories t v ≡ slice_index (memories t v) (words_at d P image memories t address)
loaded_is d count P image memories placed t v array version address guard l e none =
    made_word P image (memories t) (moment_at d P image memories t) placed.stand v none
    ∙ ap (word_by (moment_at d P image memories t) (memories t v) (words_at d P image memories t)) e

-- they are those of nodes, and fit the values
pub words_run : (d : Draft) (count : ℕ) (P : Placing) (image : Image) (memories : Memories) → IsFormed d → IsPlaced d count P → IsKernel P.kernel → IsImage image → AreWords memories → ValuesRun d P image memories count
words_run d count P image memories formed placed kernel good are =
    record {
      moment = moment_at d P image memories;
      word = words_at d P image memories;
      turn = λ t. refl;
      streams = λ t. refl;
      begins = λ number. first_is d P image memories number;
      next = λ t number. next_is d count P image memories placed kernel.wired t number;
      fits = fit d count P image memories formed placed kernel good are;
      node = λ t v m e. node_word d count P image memories placed kernel.wired t v m e;
      operand_is = λ t a o l k is. operand_has d count P image memories placed kernel.wired t a o is;
      loaded = λ t v array version address guard l e none. loaded_is d count P image memories placed t v array version address guard l e none;
    }
