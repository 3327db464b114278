-- The effects of the units of one cycle, one after the other.
use Rattle.std.specs.Prelude.{◌≡◌, ◌≢◌, ℕ, ◌+◌, ◌*◌, ◌<◌, ◌≤◌, true, List, [], ◌∷◌, ◌++◌, Option, length, slice_index, slice_set, vec_len, vec_capacity}
use Rattle.cg_model.specs.declared.config.UnitFields.{UnitFields}
use Rattle.cg_model.specs.Config.{Config, fields}
use Rattle.cg_model.specs.Canonical.{gives_output}
use Rattle.cg_model.specs.Work.{Image, Work}
use Rattle.cg_model.specs.Machine.{result_of, memory_after, sent_after, missed_after, memory_by, sent_by_units, missed_by_units}
use Rattle.cg_datapath.specs.Reserved.{Reserved, stream}
use Rattle.cg_datapath.specs.Terminals.{works_on}
use Rattle.cg_datapath.specs.declared.effects.Store.{Store}
use Rattle.cg_datapath.specs.declared.effects.Effects.{Effects}
use Rattle.cg_datapath.specs.declared.terminals.Terminals.{Terminals}

-- the stores of a cycle, in order
abbrev pub applied : List ℕ → List Store → List ℕ
applied memory [] = memory
applied memory (s ∷ ss) = applied (slice_set memory s.address s.value) ss

-- there is room for what a unit with these fields sends in a round
abbrev pub HasRoom : List Reserved → UnitFields → ℕ → ℕ → Type 0
HasRoom streams f n round = gives_output f.op ≡ true → f.stage ≤ round → round < f.stage + n →
    (f.port < length streams) × (length (stream streams f.port).words < (stream streams f.port).room)

-- there is room for what a unit with these fields sends in a round, after the works of the first x units
abbrev pub HasRoomAfter : List Reserved → (ℕ → Option Work) → ℕ → UnitFields → ℕ → ℕ → Type 0
HasRoomAfter streams works x f n round = gives_output f.op ≡ true → f.stage ≤ round → round < f.stage + n →
    (f.port < length streams) ×
    (length ((stream streams f.port).words ++ sent_by_units works f.port x) < (stream streams f.port).room)

-- there is room for what each unit sends, after the works of the units before it
abbrev pub AreRoomy : Config → List Terminals → ℕ → ℕ → ℕ → List ℕ → List Reserved → Type 0
AreRoomy C us n slot round words streams = (x : ℕ) → x < length us →
    HasRoomAfter streams (works_on C us n slot round words) x (fields C x slot) n round

-- one unit's work, or none
pub record Begins (image : Image) (o : Option Work) (e g : Effects) (result : ℕ) : Type 0 where
  pub result_is : result ≡ result_of image e.memory o
  pub memory : g.memory ≡ e.memory
  pub pending : (m : List ℕ) → applied m g.pending.items ≡ memory_after (applied m e.pending.items) o
  pub pending_few : vec_len g.pending ≤ vec_len e.pending + 1
  pub pending_room : vec_capacity e.pending ≤ vec_capacity g.pending
  pub streams_long : length g.streams.items ≡ length e.streams.items
  pub streams : (port : ℕ) → (stream g.streams.items port).words ≡ (stream e.streams.items port).words ++ sent_after port o
  pub room : (port : ℕ) → (stream e.streams.items port).room ≤ (stream g.streams.items port).room
  pub outside : g.outside ≡ e.outside + missed_after (length e.memory) o

-- the works of the first x units
pub record BeginsAll (image : Image) (works : ℕ → Option Work) (x : ℕ) (e g : Effects) : Type 0 where
  pub memory : g.memory ≡ e.memory
  pub pending : (m : List ℕ) → applied m g.pending.items ≡ memory_by works (applied m e.pending.items) x
  pub pending_few : vec_len g.pending ≤ vec_len e.pending + x
  pub pending_room : vec_capacity e.pending ≤ vec_capacity g.pending
  pub streams_long : length g.streams.items ≡ length e.streams.items
  pub streams : (port : ℕ) →
      (stream g.streams.items port).words ≡ (stream e.streams.items port).words ++ sent_by_units works port x
  pub room : (port : ℕ) → (stream e.streams.items port).room ≤ (stream g.streams.items port).room
  pub outside : g.outside ≡ e.outside + missed_by_units works (length e.memory) x

-- the given row of the history has the results of the first x units, and the other rows are unchanged
pub record HasRow (image : Image) (memory : List ℕ) (works : ℕ → Option Work) (row x : ℕ) (old new : List ℕ) : Type 0 where
  pub here : (y : ℕ) → y < x → slice_index new (4 * y + row) ≡ result_of image memory (works y)
  pub there : (y d : ℕ) → d < 4 → d ≢ row → slice_index new (4 * y + d) ≡ slice_index old (4 * y + d)
