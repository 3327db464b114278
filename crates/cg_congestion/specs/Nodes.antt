-- The lists of claims of all nodes.
use Rattle.std.specs.Prelude.{◌≡◌, ℕ, ◌-◌, ◌*◌, ◌^◌, ◌<◌, ◌≤◌, List, [], length, slice_index_or, sum_by}
use Rattle.cg_model.specs.Array.{Arch}
use Rattle.cg_mrrg.specs.Nodes.{node_at}
use Rattle.cg_congestion.specs.Kept.{ClaimUse, IsNodeList, expand_all}
use Rattle.cg_congestion.specs.Table.{Table, size}

-- list k is one of node k
abbrev pub AreLists : ℕ → List (List ClaimUse) → Type 0
AreLists ii nodes = (k : ℕ) → k < length nodes → IsNodeList ii (node_at ii k) (slice_index_or nodes k [])

-- the claims beyond one of each list
abbrev pub beyond : List (List ClaimUse) → ℕ
beyond nodes = sum_by (λ (cs : List ClaimUse). length cs - 1) nodes

-- the table of the given lists and histories
abbrev pub table_of : Arch → ℕ → List (List ClaimUse) → List ℕ → Table
table_of A ii nodes history = record { arch = A; interval = ii; positions = expand_all ii 0 nodes; history = history }

-- a list and a history for each node, and the claims beyond one
pub record IsKept (A : Arch) (ii : ℕ) (nodes : List (List ClaimUse)) (history : List ℕ) (excess : ℕ) : Type 0 where
  pub some : 0 < ii
  pub few : ii ≤ 64
  pub each : length nodes ≡ length A.resources * ii
  pub histories : length history ≡ length A.resources * ii
  pub lists : AreLists ii nodes
  pub room : length (expand_all ii 0 nodes) ≤ 2 ^ 48
  pub sum : excess ≡ beyond nodes

-- a table whose positions are those of lists by node
pub record IsListed (T : Table) : Type 0 where
  pub nodes : List (List ClaimUse)
  pub some : 0 < T.interval
  pub each : length nodes ≡ size T
  pub lists : AreLists T.interval nodes
  pub are : T.positions ≡ expand_all T.interval 0 nodes
