-- The meaning of the names of a mapping's file.
use Rattle.std.specs.Prelude.{ℕ, Bool, true, false, List, Option, Some, None, Result, Ok, Err, slice_get, if◌then◌else◌}
use Rattle.std.specs.Option.{option_map_or}
use Rattle.cg_model.specs.Array.{Arch}
use Rattle.cg_model.specs.Kernel.{Kernel}
use Rattle.cg_model.specs.declared.kernel.Operand.{Operand}
use Rattle.cg_model.specs.declared.kernel.Operand.TheVariants.{Const as Constant, Edge}
use Rattle.cg_model.specs.declared.mapping.Route.{Route}
use Rattle.cg_reading.specs.Numbers.{number_of}
use Rattle.cg_reading.specs.Items.{all_of, all_or_first}
use Rattle.cg_mapping.specs.Written.{MappingPlace, WrittenPlace, WrittenRoute, WrittenMapping}
use Rattle.cg_mapping.specs.declared.fault.MappingPlace.TheVariants as at
use Rattle.cg_mapping.specs.Rules.{NodePlace, NamedMapping}

-- an architecture and a kernel
pub record Pair : Type 0 where
  pub arch : Arch
  pub kernel : Kernel

-- the number of the node, the unit or the resource of that name
unfoldable pub node_number : Kernel → List ℕ → Option ℕ
node_number K name = number_of (λ n. Some n.name) K.nodes name

unfoldable pub unit_number : Arch → List ℕ → Option ℕ
unit_number A name = number_of (λ u. Some u.name) A.units name

unfoldable pub resource_number : Arch → List ℕ → Option ℕ
resource_number A name = number_of (λ r. Some r.name) A.resources name

abbrev pub is_edge : Operand → Bool
is_edge (Constant c) = false
is_edge (Edge u d init) = true

-- node v has an operand number p, and it is an edge
unfoldable pub takes_edge : Kernel → ℕ → ℕ → Bool
takes_edge K v p = option_map_or (λ n. option_map_or is_edge (slice_get n.operands p) false) (slice_get K.nodes v) false

-- the place of a node, from their numbers
abbrev pub place_at : Option ℕ → Option ℕ → ℕ → Option NodePlace
place_at (Some v) (Some x) time = Some (record { node = v; place = record { unit = x; time = time } })
place_at _ _ time = None

abbrev pub place_of : Arch → Kernel → WrittenPlace → Option NodePlace
place_of A K w = place_at (node_number K w.node) (unit_number A w.unit) w.time

-- the node with that number, if that operand of it is an edge
abbrev pub end_at : Kernel → ℕ → Option ℕ → Option ℕ
end_at K p None = None
end_at K p (Some v) = if takes_edge K v p then Some v else None

-- a route to an edge operand
abbrev pub route_at : Option ℕ → ℕ → Option (List ℕ) → Option Route
route_at (Some v) p (Some path) = Some (record { node = v; arg = p; path = path })
route_at _ p _ = None

abbrev pub route_of : Arch → Kernel → WrittenRoute → Option Route
route_of A K w = route_at (end_at K w.arg (node_number K w.to)) w.arg (all_of (resource_number A) w.path)

-- all places and routes, or the first with an unknown name
abbrev pub joined : ℕ → Result (List NodePlace) ℕ → Result (List Route) ℕ → Result NamedMapping MappingPlace
joined ii (Ok places) (Ok routes) = Ok (record { ii = ii; places = places; routes = routes })
joined ii (Ok places) (Err r) = Err (at.Route r)
joined ii (Err p) routes = Err (at.Place p)

-- P4 UnknownName: the mapping that the names denote, or the first place where a name is not that of a node, unit or
-- resource, or `arg` is not an edge operand of `to`
unfoldable pub named_of : Arch → Kernel → WrittenMapping → Result NamedMapping MappingPlace
named_of A K w = joined w.ii (all_or_first (place_of A K) 0 w.places) (all_or_first (route_of A K) 0 w.routes)
