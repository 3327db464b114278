-- The state of a run that keeps results.
use Rattle.std.specs.Prelude.{◌≡◌, ℕ, ◌+◌, ◌-◌, ◌*◌, ◌%◌, ◌<◌, ◌≤◌, true, length}
use Rattle.cg_model.specs.Array.{Arch}
use Rattle.cg_model.specs.Config.{Config, fields}
use Rattle.cg_model.specs.Canonical.{is_on}
use Rattle.cg_model.specs.Work.{Image}
use Rattle.cg_model.specs.Machine.{ago, at_cycle, result}
use Rattle.cg_datapath.specs.Reserved.{stream}
use Rattle.cg_datapath.specs.State.{AreEffects}
use Rattle.cg_datapath.specs.declared.effects.Effects.{Effects}
use Rattle.cg_history.specs.Results.{Results, result_ago, result_now}

-- the number of the cycle in that slot of that round
abbrev pub cycle_in : Config → ℕ → ℕ → ℕ
cycle_in C slot round = round * C.ii + slot

-- before cycle c, each result that is kept, of a unit that was on, is that of the array
abbrev pub HasResults : Arch → Config → ℕ → Image → ℕ → Results → Type 0
HasResults A C n image c h = (x d : ℕ) → x < length A.units → 0 < d → d < h.rows →
    (d ≤ c → is_on (fields C x ((c - d) % C.ii)).op ≡ true) →
    result_ago h x d ≡ (ago (at_cycle A C n image c).past d).results x

-- the results of cycle c stand in the current row, for the units that are on
abbrev pub HasNow : Arch → Config → ℕ → Image → ℕ → Results → Type 0
HasNow A C n image c h = (x : ℕ) → x < length A.units → is_on (fields C x (c % C.ii)).op ≡ true →
    result_now h x ≡ result A C n image x c

-- before cycle c
pub record IsAt (A : Arch) (C : Config) (n : ℕ) (image : Image) (c : ℕ) (h : Results) (e : Effects) : Type 0 where
  pub units : h.units ≡ length A.units
  pub results : HasResults A C n image c h
  pub memory : e.memory ≡ (at_cycle A C n image c).memory
  pub streams : (port : ℕ) → port < 16 → (stream e.streams.items port).words ≡ (at_cycle A C n image c).streams port
  pub outside : e.outside ≡ (at_cycle A C n image c).outside
  pub effects : AreEffects A C n c e
