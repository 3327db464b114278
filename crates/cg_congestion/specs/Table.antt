-- Use tables: the positions of the paths that were added, and a history for each node; the cost of a link there.
use Rattle.std.specs.Prelude.{◌≡◌, ℕ, ◌+◌, ◌*◌, nat_lt, if◌then◌else◌, List, length, map, slice_index}
use Rattle.std.specs.List.{range_with_len, list_any}
use Rattle.cg_model.specs.Array.{Arch}
use Rattle.cg_model.specs.Mapping.{Position}
use Rattle.cg_mrrg.specs.declared.links.MNode.{MNode}
use Rattle.cg_mrrg.specs.Nodes.{node_at}
use Rattle.cg_congestion.specs.Claims.{same, uses, claims_at, node_of, excess as excess_of}

-- the use of an architecture at an interval; histories by resource, then slot
pub record Table : Type 0 where
  pub arch : Arch
  pub interval : ℕ
  pub positions : List Position
  pub history : List ℕ

-- the number of nodes
abbrev pub size : Table → ℕ
size T = length T.arch.resources * T.interval

-- the history of a node
abbrev pub history_at : Table → MNode → ℕ
history_at T n = slice_index T.history (n.resource * T.interval + n.slot)

-- the cost that each claim on a node adds to one more claim
abbrev pub claim_toll : ℕ
claim_toll = 8

-- the cost of one more claim on a node: 1, its history, and the toll of each claim there
unfoldable pub toll : Table → MNode → ℕ
toll T n = 1 + history_at T n + claim_toll * claims_at T.interval T.positions n

-- the price of going along a link to a position: 0 if its claim is there already
unfoldable pub link_price : Table → Position → ℕ
link_price T p = if list_any (same p) T.positions then 0 else toll T (node_of T.interval p)

-- the claims beyond one, over all nodes
abbrev pub excess : Table → ℕ
excess T = excess_of T.interval (length T.arch.resources) T.positions

-- the histories after the nodes with excess have aged
abbrev pub aged : Table → List ℕ
aged T = map (λ k. slice_index T.history k + (if nat_lt 1 (claims_at T.interval T.positions (node_at T.interval k)) then 1 else 0)) (range_with_len 0 (size T))

-- the table `many` has the given positions in addition to those of `few`, in any order
pub record IsMore (few many : Table) (ps : List Position) : Type 0 where
  pub arch : many.arch ≡ few.arch
  pub interval : many.interval ≡ few.interval
  pub history : many.history ≡ few.history
  pub uses : (p : Position) → uses many.positions p ≡ uses few.positions p + uses ps p
  pub count : length many.positions ≡ length few.positions + length ps
