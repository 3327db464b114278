-- Loops in one another, in a turn.
use Rattle.std.specs.Prelude.{◌≡◌, ℕ, ◌/◌, ◌%◌, ◌<◌, ◌≤◌, ◌==◌, true, List, [], ◌∷◌, ◌++◌, length, None}
use Rattle.cg_c_check.specs.declared.program.Array.{Array}
use Rattle.cg_c_check.specs.declared.program.Range.{Range}
use Rattle.cg_c_check.specs.Program.{Level, Stmts}
use Rattle.cg_c_check.specs.Rules.{is_true}
use Rattle.cg_c_values.specs.declared.value.Value.{Value}
use Rattle.cg_c_values.specs.Values.{Moment, Words, Fits, Keeps, IsLoad, holds, value_at}
use Rattle.cg_c_meaning.specs.Meaning.{Context, Run, counter as counter_of}
use Rattle.cg_c_meaning.specs.Turns.{turn, turns_of, when}
use Rattle.cg_c_meaning.specs.Typed.{AreTypedStmts, nest_outputs, stmts_inputs}
use Rattle.cg_c_turn.specs.Draft.{Draft, Effect, assigned_in, latest_in}
use Rattle.cg_c_turn.specs.Stands.{ACondition, Agrees, Any, IsTouched, Performs, Sends}

-- values were added at the end, none of them a load's
pub record AddsNoLoad (old new : List Value) : Type 0 where
  pub keeps : Keeps old new
  pub none : (v : ℕ) → length old ≤ v → v < length new → IsLoad (value_at new v) → ⊥

-- v is a value that has this word in a turn
pub record IsOfTurn (values : List Value) (v : ℕ) (word : ℕ → ℕ) : Type 0 where
  pub within : v < length values
  pub is : (x : Moment) (E : Words) → Fits values x E → E v ≡ word x.turn

-- v is the number of the turn among the turns of a part of the nest, of which there are `span`
pub record IsIndex (values : List Value) (v span : ℕ) : Type 0 where
  pub within : v < length values
  pub is : (x : Moment) (E : Words) → Fits values x E → E v < span → E v ≡ x.turn % span

-- nothing is done yet
pub record IsBlank (arrays : List Array) (d : Draft) : Type 0 where
  pub arrays_are : d.arrays ≡ arrays
  pub counters : d.counters ≡ []
  pub values : d.values ≡ []
  pub effects : d.effects ≡ []
  pub guard : d.guard ≡ None
  pub words : d.words ≡ []
  pub initial : d.initial ≡ []
  pub length_is : length d.latest ≡ length arrays
  pub latest : (array : ℕ) → latest_in d array ≡ record { version = 0; stored = None }

-- where the guard of the point holds the turn is the first one
pub record IsAtFirst (d : Draft) : Type 0 where
  pub first : (x : Moment) (E : Words) → Fits d.values x E → holds E d.guard ≡ true → x.turn ≡ 0

-- a part without inputs of the first turn is translated, which sends words to the streams of `outs` and may say what words
-- have when the turn begins
pub record IsFirst (before after : Draft) (run : Context → Run (Unit {0})) (outs : List ℕ) : Type 0 where
  pub added : List Effect
  pub performs : Performs before after added Any run []
  pub sends : Sends before after outs

-- a part without inputs, which sends words to the streams of `outs`, is translated that is done where the word of c isn't 0
pub record IsGuarded (before after : Draft) (c : ℕ) (run : Context → Run (Unit {0})) (outs : List ℕ) : Type 0 where
  pub added : List Effect
  pub performs : (w : ℕ) → Performs before after added (λ E. Agrees ACondition (E c) w) (λ x. when (is_true w) (run x)) []
  pub sends : Sends before after outs

-- a word was neither assigned in this turn nor used as it was when the turn began
pub record IsUnused (d : Draft) (number : ℕ) : Type 0 where
  pub unassigned : assigned_in d number ≡ None
  pub untouched : IsTouched d number → ⊥

-- the draft with other words when the first turn begins
abbrev pub with_initial : Draft → List ℕ → Draft
with_initial d words = record d { initial = words }

-- statements, which send words to the streams of `outs`, are translated that are done in the turn whose index is `at`
pub record IsEdge (before after : Draft) (index at : ℕ) (run : Context → Run (Unit {0})) (outs : List ℕ) : Type 0 where
  pub added : List Effect
  pub performs : (t : ℕ) → Performs before after added (λ E. E index ≡ t) (λ c. when (t == at) (run c)) []
  pub sends : Sends before after outs

-- from a point before a loop to one in it: `counter` is the value of the loop's counter, and `index` the number of the turn
-- among those of an iteration, of which there are `span`
pub record EntersLoop (before after : Draft) (range : Range) (span index : ℕ) : Type 0 where
  pub counter : ℕ
  pub rest : after ≡ record before { values = after.values; counters = before.counters ++ counter ∷ [] }
  pub adds : AddsNoLoad before.values after.values
  pub counter_is : IsOfTurn after.values counter (λ t. counter_of range (t / span % range.trips))
  pub index_is : IsOfTurn after.values index (λ t. t / 1 % span)

-- there are no inputs before and after these loops
abbrev pub AreQuiet : List Array → List Level → Type 0
AreQuiet arrays [] = Unit {0}
AreQuiet arrays (l ∷ ls) =
    AreTypedStmts arrays true l.before × AreTypedStmts arrays true l.after
    × (stmts_inputs l.before ≡ []) × (stmts_inputs l.after ≡ []) × AreQuiet arrays ls

-- loops in one another, and what is in the innermost, are translated, where `index` is the number of the turn among theirs
pub record IsNested (before after : Draft) (index : ℕ) (levels : List Level) (body : Stmts) : Type 0 where
  pub added : List Effect
  pub performs : (t : ℕ) → t < turns_of levels → Performs before after added (λ E. E index ≡ t) (λ c. turn c levels body t) (stmts_inputs body)
  pub sends : Sends before after (nest_outputs levels body)
