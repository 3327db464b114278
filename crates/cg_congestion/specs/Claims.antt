-- Claims on the nodes of the modulo routing resource graph (negotiated congestion, McMurchie and Ebeling 1995): each
-- position of a path claims the node of its resource in the slot of its time. Positions of one source, one time and one
-- predecessor make the same claim, which is then used more than once; different claims conflict.
use Rattle.std.specs.Prelude.{ℕ, ◌-◌, ◌*◌, ◌%◌, eqb, ◌&&◌, if◌then◌else◌, Bool, List, [], ◌∷◌, length, filter, count_by, sum_by}
use Rattle.std.specs.List.{range_with_len, list_any}
use Rattle.cg_model.specs.Mapping.{Position, same_from}
use Rattle.cg_mrrg.specs.declared.links.MNode.{MNode}
use Rattle.cg_mrrg.specs.Nodes.{node_at}

-- the same claim on the same resource
abbrev pub same : Position → Position → Bool
same p q = eqb p.source q.source && eqb p.resource q.resource && eqb p.time q.time && same_from p.from q.from

-- the number of uses of a claim
abbrev pub uses : List Position → Position → ℕ
uses ps p = count_by (same p) ps

-- each claim once
abbrev pub different : List Position → List Position
different [] = []
different (p ∷ ps) = if list_any (same p) ps then different ps else p ∷ different ps

-- the node that a position claims
abbrev pub node_of : ℕ → Position → MNode
node_of ii p = record { resource = p.resource; slot = p.time % ii }

-- a position claims the given node
abbrev pub is_at : ℕ → MNode → Position → Bool
is_at ii n p = eqb p.resource n.resource && eqb (p.time % ii) n.slot

-- the number of claims on a node
unfoldable pub claims_at : ℕ → List Position → MNode → ℕ
claims_at ii ps n = length (different (filter (is_at ii n) ps))

-- the claims on a node beyond one
abbrev pub excess_at : ℕ → List Position → MNode → ℕ
excess_at ii ps n = claims_at ii ps n - 1

-- the excess over the first k nodes
abbrev pub excess_below : ℕ → List Position → ℕ → ℕ
excess_below ii ps k = sum_by (λ j. excess_at ii ps (node_at ii j)) (range_with_len 0 k)

-- the excess over all nodes of n resources
abbrev pub excess : ℕ → ℕ → List Position → ℕ
excess ii n ps = excess_below ii ps (n * ii)
