-- The links of a graph by node, and the lists that are kept of them.
use Rattle.std.specs.Prelude.{ℕ, ◌*◌, ◌%◌, ◌/◌, ◌<◌, ◌≤◌, List, length}
use Rattle.cg_model.specs.Array.{Arch}
use Rattle.cg_mrrg.specs.declared.links.MNode.{MNode}
use Rattle.cg_mrrg.specs.declared.links.Link.{Link}
use Rattle.cg_mrrg.specs.Graph.{links_into, links_out_of}
use Rattle.cg_mrrg.specs.Lists.{AreParts}

-- node number k, by resource and then slot
abbrev pub node_at : ℕ → ℕ → MNode
node_at ii k = record { resource = k / ii; slot = k % ii }

-- the links that end in, and that start in, node number k
abbrev pub into : Arch → ℕ → ℕ → List Link
into A ii k = links_into (record { arch = A; interval = ii }) (node_at ii k)

abbrev pub out_of : Arch → ℕ → ℕ → List Link
out_of A ii k = links_out_of (record { arch = A; interval = ii }) (node_at ii k)

-- the lists of all nodes' links
pub record IsKept (A : Arch) (ii : ℕ) (into_links : List Link) (into_starts : List ℕ) (out_links : List Link) (out_starts : List ℕ) : Type 0 where
  pub some : 0 < ii
  pub few : ii ≤ 64
  pub into_parts : AreParts (into A ii) (length A.resources * ii) into_links into_starts
  pub out_parts : AreParts (out_of A ii) (length A.resources * ii) out_links out_starts
