-- Architectures as a designer writes them: a list of elements, which define resources and units in their order.
use Rattle.std.specs.Prelude.{ℕ, ◌+◌, List, [], ◌∷◌, ◌++◌, Option, Some, None, nat_lt, fold, flat_map, map, if◌then◌else◌}
use Rattle.std.specs.Borrow.{Bor}
use Rattle.std.specs.List.{list_any}
use Rattle.std.specs.Str.{bytes_eq}
use Rattle.cg_model.specs.declared.array.Kind.TheVariants.{Wire, Register, Port, Out}
pub use Rattle.cg_parts.specs.declared.parts.Element.{Element}
use Rattle.cg_parts.specs.declared.parts.Element.TheVariants as element
pub use Rattle.cg_parts.specs.declared.parts.Parts.{Parts}
pub use Rattle.cg_parts.specs.declared.entry.Entry.{Entry}

-- ---- names

-- the texts that references lend
abbrev pub texts : List (Bor (List ℕ)) → List (List ℕ)
texts = map (λ text. text.now)

-- the name of port p of a unit: the unit's name followed by `_a`, `_b` or `_c`
abbrev pub port_name : List ℕ → ℕ → List ℕ
port_name unit p = unit ++ 95 ∷ (97 + p) ∷ []

-- a port past the third has no name
abbrev pub port_name_of : List ℕ → ℕ → Option (List ℕ)
port_name_of unit p = if nat_lt p 3 then Some (port_name unit p) else None

-- the name of a unit's out: the unit's name followed by `_o`
abbrev pub out_name : List ℕ → List ℕ
out_name unit = unit ++ 95 ∷ 111 ∷ []

-- a list of names with one more name, unless it is there already
abbrev pub with_name : List (List ℕ) → List ℕ → List (List ℕ)
with_name names name = if list_any (bytes_eq name) names then names else names ++ name ∷ []

-- the distinct names of a list, in the order of their first occurrences
unfoldable pub distinct : List (List ℕ) → List (List ℕ)
distinct names = fold with_name [] names

-- ---- resources

-- the ports of a unit, from port p on
abbrev pub port_entries : List ℕ → ℕ → List (List (List ℕ)) → List Entry
port_entries unit p [] = []
port_entries unit p (drivers ∷ ports) = record { name = port_name_of unit p; kind = Port; drivers = distinct drivers } ∷ port_entries unit (p + 1) ports

-- the out of a unit
abbrev pub out_entry : List ℕ → Entry
out_entry unit = record { name = Some (out_name unit); kind = Out; drivers = [] }

-- the resources that an element defines: itself, or its ports and then its out
abbrev pub entries_of : Element → List Entry
entries_of (element.Wire name drivers) = record { name = Some name; kind = Wire; drivers = distinct drivers } ∷ []
entries_of (element.Register name drivers) = record { name = Some name; kind = Register; drivers = distinct drivers } ∷ []
entries_of (element.Unit name ops latency ports) = port_entries name 0 ports ++ out_entry name ∷ []

-- the resources of the elements, in their order
unfoldable pub entries : List Element → List Entry
entries elements = flat_map entries_of elements

-- ---- the names in an element

abbrev pub name_of : Element → List ℕ
name_of (element.Wire name drivers) = name
name_of (element.Register name drivers) = name
name_of (element.Unit name ops latency ports) = name

-- the drivers in its lists, as written
abbrev pub drivers_of : Element → List (List ℕ)
drivers_of (element.Wire name drivers) = drivers
drivers_of (element.Register name drivers) = drivers
drivers_of (element.Unit name ops latency ports) = flat_map (λ drivers. drivers) ports

-- the names of the ports of a unit that have one, from port p on
abbrev pub port_names : List ℕ → ℕ → List (List (List ℕ)) → List (List ℕ)
port_names unit p [] = []
port_names unit p (drivers ∷ ports) = if nat_lt p 3 then port_name unit p ∷ port_names unit (p + 1) ports else []

-- the names that an element claims: its own, and those of its ports and its out
abbrev pub claims_of : Element → List (List ℕ)
claims_of (element.Wire name drivers) = name ∷ []
claims_of (element.Register name drivers) = name ∷ []
claims_of (element.Unit name ops latency ports) = name ∷ out_name name ∷ port_names name 0 ports
