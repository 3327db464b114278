-- The first places of unknown keys and of numbers that are too large: in the file, in a place, in a route.
use Rattle.std.specs.Prelude.{ℕ, Bool, List, length, Option, Some, None, nat_lt, option_map, if◌then◌else◌}
use Rattle.std.specs.Option.{option_or}
use Rattle.std.specs.List.{position_from}
use Rattle.cg_model.specs.Limits.{latest_time}
use Rattle.cg_model.specs.declared.mapping.Route.{Route}
use Rattle.cg_mapping.specs.Limits.{greatest_interval, longest_path}
use Rattle.cg_mapping.specs.Written.{MappingPlace, WrittenPlace, WrittenRoute, WrittenMapping}
use Rattle.cg_mapping.specs.declared.fault.MappingPlace.TheVariants as at
pub use Rattle.cg_mapping.specs.declared.named.NodePlace.{NodePlace}
pub use Rattle.cg_mapping.specs.declared.named.NamedMapping.{NamedMapping}

-- the file where a fault applies to it, else the first place to which it applies, else the first such route
abbrev pub first_of : Bool → Option ℕ → Option ℕ → Option MappingPlace
first_of file place route = option_or (if file then Some at.File else None) (option_or (option_map at.Place place) (option_map at.Route route))

abbrev pub first_place : {P R : Type 0} → Bool → (P → Bool) → List P → (R → Bool) → List R → Option MappingPlace
first_place file in_place places in_route routes = first_of file (position_from in_place 0 places) (position_from in_route 0 routes)

-- P3 UnknownKey: an object has a key that the format doesn't have there
abbrev pub place_has_other : WrittenPlace → Bool
place_has_other p = p.other_keys

abbrev pub route_has_other : WrittenRoute → Bool
route_has_other r = r.other_keys

unfoldable pub unknown_key : WrittenMapping → Option MappingPlace
unknown_key w = first_place w.other_keys place_has_other w.places route_has_other w.routes

-- P5 TooLarge: an interval above 65,535, a time above 65,534, a path of more than 65,535 resources
abbrev pub is_late : NodePlace → Bool
is_late p = nat_lt latest_time p.place.time

abbrev pub is_long : Route → Bool
is_long r = nat_lt longest_path (length r.path)

unfoldable pub too_large : NamedMapping → Option MappingPlace
too_large m = first_place (nat_lt greatest_interval m.ii) is_late m.places is_long m.routes
