-- What the units begin in each slot, with the sources of their operands.
use Rattle.std.specs.Prelude.{◌≡◌, ℕ, suc, ◌%◌, ◌<◌, ◌≤◌, true, List, [], length, Some, slice_index_or, slice_get}
use Rattle.std.specs.Option.{unwrap_or}
use Rattle.cg_word.specs.declared.op.Op.TheVariants.{Const}
use Rattle.cg_word.specs.Word.{arity}
use Rattle.cg_model.specs.Array.{Arch, unit}
use Rattle.cg_model.specs.Config.{Config, arg, fields}
use Rattle.cg_model.specs.Canonical.{is_on}
use Rattle.cg_model.specs.Work.{Image}
use Rattle.cg_model.specs.Machine.{argument, at_cycle, driven, words_in}
use Rattle.cg_config.specs.Told.{told}
use Rattle.cg_origins.specs.Source.{IsReadable, delay_of, source_word}
use Rattle.cg_origins.specs.declared.source.Source.{Source}
use Rattle.cg_origins.specs.declared.source.Source.TheVariants as source
use Rattle.cg_origins.specs.declared.tasks.Task.{Task}
use Rattle.cg_origins.specs.declared.tasks.Tasks.{Tasks}

-- argument p of unit x in the slot is an initial word or immediate where the fields have one, and else the word of the
-- source; from turn `warm` on it is the word of the source, whose result is among the last `rows`
pub record IsOperand (A : Arch) (C : Config) (slot x p warm rows : ℕ) (s : Source) : Type 0 where
  pub gives : (n : ℕ) (image : Image) (c turn : ℕ) → c % C.ii ≡ slot →
      argument (fields C x slot) turn (driven (words_in A C n image c (at_cycle A C n image c).past) (slice_get (unit A x).ports p)) (arg (fields C x slot) p) ≡
      unwrap_or (told (fields C x slot) p turn) (source_word (at_cycle A C n image c).past s)
  pub warmed : (turn w : ℕ) → warm ≤ turn → told (fields C x slot) p turn ≡ Some w → s ≡ source.Word w
  pub readable : IsReadable A C slot s
  pub near : delay_of s < rows

-- the source of operand p, past the last one the word 0
abbrev pub source_at : Task → ℕ → Source
source_at t p = slice_index_or t.sources p (source.Word 0)

-- what a unit begins in the slot
pub record IsTask (A : Arch) (C : Config) (slot rows : ℕ) (t : Task) : Type 0 where
  pub known : t.unit < length A.units
  pub op : (fields C t.unit slot).op ≡ Some t.op
  pub port : t.port ≡ (fields C t.unit slot).port
  pub stage : t.stage ≡ (fields C t.unit slot).stage
  pub operands : (p : ℕ) → p < arity t.op → IsOperand A C slot t.unit p t.warm rows (source_at t p)
  pub rest : (p : ℕ) → arity t.op ≤ p → source_at t p ≡ source.Word 0

-- task j
abbrev pub task : List Task → ℕ → Task
task ts j = slice_index_or ts j (record { unit = 0; op = Const; port = 0; stage = 0; warm = 0; sources = [] })

-- the tasks of the units that are on in the slot, in the order of the units
pub record AreTasks (A : Arch) (C : Config) (slot rows : ℕ) (ts : List Task) : Type 0 where
  pub each : (j : ℕ) → j < length ts → IsTask A C slot rows (task ts j)
  pub rising : (j : ℕ) → suc j < length ts → (task ts j).unit < (task ts (suc j)).unit
  pub all : (x : ℕ) → x < length A.units → is_on (fields C x slot).op ≡ true → (j : ℕ) × (j < length ts) × ((task ts j).unit ≡ x)

-- the tasks of all slots
pub record AreAllTasks (A : Arch) (C : Config) (all : Tasks) : Type 0 where
  pub long : length all.slots.items ≡ C.ii
  pub some : 0 < all.rows
  pub few : all.rows ≤ 256
  pub each : (slot : ℕ) → slot < C.ii → AreTasks A C slot all.rows (slice_index_or all.slots.items slot [])
