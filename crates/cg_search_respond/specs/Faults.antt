-- The faults of a mapping that isn't legal, by which a search compares such mappings.
use Rattle.std.specs.Prelude.{ℕ, ◌+◌, ◌*◌, ◌-◌, ◌^◌, ◌%◌, min, max, Bool, ◌&&◌, not, eqb, nat_lt, List, [], ◌∷◌, ◌++◌, length, count_by, if◌then◌else◌}
use Rattle.std.specs.List.{list_any}
use Rattle.cg_model.specs.Kernel.{Kernel}
use Rattle.cg_model.specs.declared.kernel.OrderEdge.{OrderEdge}
use Rattle.cg_model.specs.Array.{Arch}
use Rattle.cg_model.specs.declared.mapping.Place.{Place}
use Rattle.cg_model.specs.declared.mapping.Route.{Route}
use Rattle.cg_model.specs.Mapping.{Mapping, Position, place, positions}
use Rattle.cg_check.specs.Rules.{is_shared, is_after}

-- the number of items that pass the test, which knows the items before each
abbrev pub count_after : {X : Type 0} → (List X → X → Bool) → List X → List X → ℕ
count_after test before [] = 0
count_after test before (x ∷ xs) = (if test before x then 1 else 0) + count_after test (before ++ x ∷ []) xs

-- ---- claims

-- two positions are one claim: the value of one node on one resource at one time
abbrev pub same_claim : Position → Position → Bool
same_claim p q = eqb p.resource q.resource && (eqb p.source q.source && eqb p.time q.time)

-- two positions are on one resource in one slot
abbrev pub meets : ℕ → Position → Position → Bool
meets ii p q = eqb p.resource q.resource && eqb (p.time % ii) (q.time % ii)

-- a position adds a claim to those on its resource in its slot: one of the positions before it is there, and none of
-- them is the same claim
abbrev pub adds_claim : ℕ → List Position → Position → Bool
adds_claim ii before p = list_any (meets ii p) before && not (list_any (same_claim p) before)

-- ---- nodes, edges and order edges

-- a place is on a unit of the architecture
abbrev pub is_placed : Arch → Place → Bool
is_placed A p = nat_lt p.unit (length A.units)

-- a place adds a node to those in its unit's slot
abbrev pub adds_node : Arch → ℕ → List Place → Place → Bool
adds_node A ii before p = is_placed A p && is_shared ii before p

abbrev pub is_unplaced : Arch → Place → Bool
is_unplaced A p = not (is_placed A p)

abbrev pub is_unrouted : Route → Bool
is_unrouted route = eqb (length route.path) 0

-- both nodes of an order edge are placed, and the target doesn't begin after the source
abbrev pub is_broken : Arch → Mapping → OrderEdge → Bool
is_broken A M e = is_placed A (place M e.from) && (is_placed A (place M e.to) && not (is_after M e))

-- ---- the sum

-- one for each claim above one on a resource in a slot, three for each node above one in a unit's slot, five for each
-- node without a place, edge without a route and broken order edge
unfoldable pub weight_of : Arch → Kernel → Mapping → ℕ
weight_of A K M =
    count_after (adds_claim M.ii) [] (positions A K M) + 3 * count_after (adds_node A M.ii) [] M.places
    + 5 * (count_by (is_unplaced A) M.places + count_by is_unrouted M.routes + count_by (is_broken A M) K.order)

-- the faults of a mapping that isn't legal: this sum, and 1 where it is 0, since only what it doesn't count is wrong; at
-- most the greatest word
unfoldable pub faults_of : Arch → Kernel → Mapping → ℕ
faults_of A K M = min (2 ^ 32 - 1) (max 1 (weight_of A K M))
