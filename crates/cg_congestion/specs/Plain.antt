-- The plain use table.
use Rattle.std.specs.Prelude.{◌≡◌, ℕ, ◌*◌, ◌^◌, ◌<◌, ◌≤◌, List, length, map}
use Rattle.cg_model.specs.Array.{Arch}
use Rattle.cg_model.specs.Mapping.{Position}
use Rattle.cg_congestion.specs.declared.laws.PlainPosition.{PlainPosition}
use Rattle.cg_congestion.specs.Table.{Table}

-- the position that a plain one is
abbrev pub plain : PlainPosition → Position
plain p = record { source = p.source; resource = p.resource; time = p.time; from = p.from }

-- the positions of a list
abbrev pub plains : List PlainPosition → List Position
plains ps = map plain ps

-- the table of the given positions and histories
abbrev pub plain_table : Arch → ℕ → List PlainPosition → List ℕ → Table
plain_table A ii positions history = record { arch = A; interval = ii; positions = plains positions; history = history }

-- few positions, and a history for each node
pub record IsPlain (A : Arch) (ii : ℕ) (positions : List PlainPosition) (history : List ℕ) : Type 0 where
  pub some : 0 < ii
  pub few : ii ≤ 64
  pub resources : length A.resources ≤ 2 ^ 32
  pub histories : length history ≡ length A.resources * ii
  pub room : length positions ≤ 2 ^ 48
