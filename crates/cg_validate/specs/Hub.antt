-- Where a hub is incomplete (A9).
use Rattle.std.specs.Prelude.{ℕ, ◌||◌, Bool, true, false, not, eqb, List, [], ◌∷◌, ◌++◌, Option, Some, None, map, flat_map, slice_get, option_map, if◌then◌else◌}
use Rattle.std.specs.Option.{option_or, option_map_or}
use Rattle.std.specs.List.{list_any}
use Rattle.std.specs.Str.{bytes_eq}
use Rattle.cg_model.specs.Array.{Arch, resource}
use Rattle.cg_model.specs.declared.array.Kind.{Kind}
use Rattle.cg_model.specs.declared.array.Kind.TheVariants.{Wire, Register, Port, Out}
use Rattle.cg_model.specs.First.{first_such}
use Rattle.cg_parts.specs.declared.parts.Parts.{Parts}
use Rattle.cg_parts.specs.declared.entry.Entry.{Entry}
use Rattle.cg_parts.specs.Parts.{entries}
use Rattle.cg_parts.specs.Numbers.{number_of}
use Rattle.cg_parts.specs.declared.fault.ArchFault.{ArchFault}
use Rattle.cg_parts.specs.declared.fault.ArchFault.TheVariants as fault
use Rattle.cg_parts.specs.declared.fault.HubPlace.{HubPlace}
use Rattle.cg_parts.specs.declared.fault.HubPlace.TheVariants as place

-- ---- entries: each names a register, and none is listed twice

abbrev pub is_register : Kind → Bool
is_register Wire = false
is_register Register = true
is_register Port = false
is_register Out = false

abbrev pub is_register_at : List Entry → ℕ → Bool
is_register_at resources q = option_map_or (λ r. is_register r.kind) (slice_get resources q) false

abbrev pub names_register : List Entry → List ℕ → Bool
names_register resources name = option_map_or (is_register_at resources) (number_of resources name) false

-- the first entry that names no register or is among the entries before it
abbrev pub first_bad_entry : List Entry → List (List ℕ) → List (List ℕ) → Option (List ℕ)
first_bad_entry resources before [] = None
first_bad_entry resources before (name ∷ names) =
    if not (names_register resources name) || list_any (bytes_eq name) before then Some name else first_bad_entry resources (before ++ name ∷ []) names

-- ---- links: each unit's out and each hub register drives each hub register, and each of these drives each port

-- the first of some resources that doesn't drive resource r
abbrev pub first_not_driving : Arch → List ℕ → ℕ → Option ℕ
first_not_driving A sources r = first_such (λ q. not (list_any (eqb q) (resource A r).drivers)) sources

abbrev pub missing : Arch → ℕ → ℕ → HubPlace
missing A q r = place.Link (resource A q).name (resource A r).name

-- the first missing link from some resources to others
abbrev pub first_missing : Arch → List ℕ → List ℕ → Option HubPlace
first_missing A sources [] = None
first_missing A sources (r ∷ rs) = option_or (option_map (λ q. missing A q r) (first_not_driving A sources r)) (first_missing A sources rs)

abbrev pub outs : Arch → List ℕ
outs A = map (λ u. u.out) A.units

abbrev pub all_ports : Arch → List ℕ
all_ports A = flat_map (λ u. u.ports) A.units

-- the first of these links that is missing: first the links into hub registers in the hub's order, then those into
-- ports in the order of their numbers
abbrev pub missing_link : Arch → Option HubPlace
missing_link A = option_or (first_missing A (outs A ++ A.hub) A.hub) (first_missing A A.hub (all_ports A))

-- A9 at its first place: the entries, and then the links
unfoldable pub hub_fault : Parts → Arch → Option ArchFault
hub_fault parts A = option_map fault.HubIncomplete
    (option_or (option_map place.Entry (first_bad_entry (entries parts.elements) [] parts.hub)) (missing_link A))
