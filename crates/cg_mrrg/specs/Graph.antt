-- The modulo routing resource graph (Mei et al. 2002): the resources of an architecture, each once in each slot of an
-- interval ii. If q drives r, a link leads from q in each slot to r in the slot in which the word arrives there.
use Rattle.std.specs.Prelude.{ℕ, zero, suc, ◌+◌, ◌-◌, ◌%◌, ◌<◌, eqb, if◌then◌else◌, List, [], ◌∷◌, ◌++◌, length, map, filter}
use Rattle.std.specs.List.{list_any}
use Rattle.cg_model.specs.Array.{Arch, resource, delay}
use Rattle.cg_mrrg.specs.declared.links.MNode.{MNode}
use Rattle.cg_mrrg.specs.declared.links.Link.{Link}

-- the graph of an architecture at an interval
pub record Graph : Type 0 where
  pub arch : Arch
  pub interval : ℕ

-- a node of the graph
pub record IsNode (G : Graph) (n : MNode) : Type 0 where
  pub resource : n.resource < length G.arch.resources
  pub slot : n.slot < G.interval

-- the link from driver q, d cycles before slot s
abbrev pub link_from : ℕ → ℕ → ℕ → ℕ → Link
link_from d s ii q = record { node = record { resource = q; slot = (s + ii - d) % ii }; delay = d }

-- the link into resource r, from slot s
abbrev pub link_to : Arch → ℕ → ℕ → ℕ → Link
link_to A s ii r = record { node = record { resource = r; slot = (s + delay A r) % ii }; delay = delay A r }

-- the links that end in a node, in the order of drivers
abbrev pub links_into : Graph → MNode → List Link
links_into G n = map (link_from (delay G.arch n.resource) n.slot G.interval) (resource G.arch n.resource).drivers

-- the resources below r that q drives, ascending
unfoldable pub users_below : Arch → ℕ → ℕ → List ℕ
users_below A q zero = []
users_below A q (suc r) = users_below A q r ++ (if list_any (eqb q) (resource A r).drivers then r ∷ [] else [])

-- the resources that q drives, ascending
abbrev pub users : Arch → ℕ → List ℕ
users A q = users_below A q (length A.resources)

-- the links that start in a node, in the order of resources
abbrev pub links_out_of : Graph → MNode → List Link
links_out_of G n = map (link_to G.arch n.slot G.interval) (users G.arch n.resource)

-- the registers that q drives, ascending: the ends of links of one cycle
abbrev pub registers_after : Arch → ℕ → List ℕ
registers_after A q = filter (λ r. eqb (delay A r) 1) (users A q)
