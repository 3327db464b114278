-- One place for each node, and one route for each edge operand.
use Rattle.std.specs.Prelude.{ℕ, ◌==◌, ◌&&◌, Bool, List, [], ◌∷◌, Option, Some, None, Result, Ok, Err, count_by, length, option_map, slice_index_or, if◌then◌else◌}
use Rattle.std.specs.List.{range_with_len}
use Rattle.cg_model.specs.First.{first_such}
use Rattle.cg_model.specs.Kernel.{Kernel, no_node}
use Rattle.cg_model.specs.declared.kernel.Node.{Node}
use Rattle.cg_model.specs.Mapping.{Mapping, End, ends_from}
use Rattle.cg_model.specs.declared.mapping.Place.{Place}
use Rattle.cg_model.specs.declared.mapping.Route.{Route}
use Rattle.cg_mapping.specs.Rules.{NodePlace, NamedMapping}
pub use Rattle.cg_mapping.specs.declared.fault.Gap.{Gap}
use Rattle.cg_mapping.specs.declared.fault.Gap.TheVariants as gap
pub use Rattle.cg_mapping.specs.declared.fault.MappingFault.{MappingFault}
use Rattle.cg_mapping.specs.declared.fault.MappingFault.TheVariants as fault

-- the item that passes a test, if exactly one does
abbrev pub only_such : {T : Type 0} → (T → Bool) → List T → Option T
only_such test xs = if count_by test xs == 1 then first_such test xs else None

-- the place is that of node v
abbrev pub is_of_node : ℕ → NodePlace → Bool
is_of_node v p = p.node == v

abbrev pub only_place : List NodePlace → ℕ → Option Place
only_place places v = option_map (λ p. p.place) (only_such (is_of_node v) places)

-- the route ends at an operand
abbrev pub ends_at : End → Route → Bool
ends_at e r = (r.node == e.node) && (r.arg == e.arg)

abbrev pub only_route : List Route → End → Option Route
only_route routes e = only_such (ends_at e) routes

-- the result for one item, before those that follow; or its fault, where it has no result
abbrev pub and_rest : {T : Type 0} → MappingFault → Option T → Result (List T) MappingFault → Result (List T) MappingFault
and_rest fault None rest = Err fault
and_rest fault (Some x) (Ok xs) = Ok (x ∷ xs)
and_rest fault (Some x) (Err other) = Err other

-- the result for each item, or the fault of the first item that has none
abbrev pub each_or_fault : {K T : Type 0} → (K → Option T) → (K → MappingFault) → List K → Result (List T) MappingFault
each_or_fault give fault [] = Ok []
each_or_fault give fault (k ∷ ks) = and_rest (fault k) (give k) (each_or_fault give fault ks)

-- the name of node v
abbrev pub name_at : List Node → ℕ → List ℕ
name_at nodes v = (slice_index_or nodes v no_node).name

-- P6 Incomplete: a node doesn't have exactly one place
abbrev pub node_fault : List Node → ℕ → MappingFault
node_fault nodes v = fault.Incomplete (gap.Node (name_at nodes v))

-- or an edge operand doesn't have exactly one route
abbrev pub arg_fault : List Node → End → MappingFault
arg_fault nodes e = fault.Incomplete (gap.Arg (name_at nodes e.node) e.arg)

-- the one place of each node in order, or the first node without exactly one
abbrev pub each_place : List Node → List NodePlace → Result (List Place) MappingFault
each_place nodes places = each_or_fault (only_place places) (node_fault nodes) (range_with_len 0 (length nodes))

unfoldable pub places_of : Kernel → List NodePlace → Result (List Place) MappingFault
places_of K places = each_place K.nodes places

-- the one route to each of these operands, or the first operand without exactly one
abbrev pub each_route : List Node → List Route → List End → Result (List Route) MappingFault
each_route nodes routes ends = each_or_fault (only_route routes) (arg_fault nodes) ends

-- the one route to each edge operand in the order of nodes and operands
unfoldable pub routes_of : Kernel → List Route → Result (List Route) MappingFault
routes_of K routes = each_route K.nodes routes (ends_from 0 K.nodes)

-- the mapping from its parts; faults of nodes come before those of operands
abbrev pub mapping_from : ℕ → Result (List Place) MappingFault → Result (List Route) MappingFault → Result Mapping MappingFault
mapping_from ii (Ok places) (Ok routes) = Ok (record { ii = ii; places = places; routes = routes })
mapping_from ii (Ok places) (Err f) = Err f
mapping_from ii (Err f) routes = Err f

-- the mapping with its places and routes in order, or P6 where it isn't complete
abbrev pub mapping_of : Kernel → NamedMapping → Result Mapping MappingFault
mapping_of K m = mapping_from m.ii (places_of K m.places) (routes_of K m.routes)
