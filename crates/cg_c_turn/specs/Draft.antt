-- The draft of a turn, up to a point in the source.
use Rattle.std.specs.Prelude.{ℕ, List, Option, None, slice_index, slice_index_or}
use Rattle.cg_c_check.specs.declared.program.Array.{Array}
use Rattle.cg_c_values.specs.declared.value.Value.{Value}
use Rattle.cg_c_values.specs.Listed.{listed}
use Rattle.cg_c_turn.specs.declared.draft.Draft.{Draft as MadeDraft}
pub use Rattle.cg_c_turn.specs.declared.effect.Effect.{Effect}
pub use Rattle.cg_c_turn.specs.declared.effect.Effect.TheVariants.{Load, Store, Send}
pub use Rattle.cg_c_turn.specs.declared.effect.Stored.{Stored}
pub use Rattle.cg_c_turn.specs.declared.effect.Latest.{Latest}

-- the values and effects so far; the guard of the point; the values of the counters of the loops around it, of the words
-- that were assigned in this turn, and the words that words have when the first turn begins; and what was last stored to
-- each array
pub record Draft : Type 0 where
  pub arrays : List Array
  pub counters : List ℕ
  pub values : List Value
  pub effects : List Effect
  pub guard : Option ℕ
  pub words : List (Option ℕ)
  pub initial : List ℕ
  pub latest : List Latest

abbrev pub draft_of : MadeDraft → Draft
draft_of d =
    record {
      arrays = d.arrays.now;
      counters = d.counters.items;
      values = listed d.values;
      effects = d.effects.items;
      guard = d.guard;
      words = d.words.items;
      initial = d.initial.items;
      latest = d.latest.items;
    }

-- the value that a word was last assigned in this turn, if it was
abbrev pub assigned_in : Draft → (number : ℕ) → Option ℕ
assigned_in d number = slice_index_or d.words number None

-- the word that a word has when the first turn begins
abbrev pub initial_in : Draft → (number : ℕ) → ℕ
initial_in d number = slice_index d.initial number

-- what was last stored to an array
abbrev pub latest_in : Draft → (array : ℕ) → Latest
latest_in d array = slice_index_or d.latest array (record { version = 0; stored = None })
