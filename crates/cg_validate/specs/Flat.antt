-- The flat architecture that parts define: their resources and units by number.
use Rattle.std.specs.Prelude.{ℕ, ◌+◌, List, [], ◌∷◌, ◌++◌, length, map, unwrap_or}
use Rattle.std.specs.List.{range_with_len}
use Rattle.cg_model.specs.Array.{Arch}
use Rattle.cg_model.specs.declared.array.Resource.{Resource}
use Rattle.cg_model.specs.declared.array.Unit.{Unit}
use Rattle.cg_parts.specs.declared.parts.Element.{Element}
use Rattle.cg_parts.specs.declared.parts.Parts.{Parts}
use Rattle.cg_parts.specs.declared.entry.Entry.{Entry}
use Rattle.cg_parts.specs.Parts.{entries_of, entries}
use Rattle.cg_parts.specs.Numbers.{number_of}
use Rattle.cg_parts.specs.declared.parts.Element.TheVariants as element

-- the number of the resource of that name
abbrev pub number_in : List Entry → List ℕ → ℕ
number_in resources name = unwrap_or (number_of resources name) 0

-- a resource with its drivers by number
abbrev pub resource_of : List Entry → Entry → Resource
resource_of resources r = record { name = unwrap_or r.name []; kind = r.kind; drivers = map (number_in resources) r.drivers }

-- the unit of an element whose resources begin with number `first`: its ports, and then its out
abbrev pub units_of : ℕ → Element → List Unit
units_of first (element.Wire name drivers) = []
units_of first (element.Register name drivers) = []
units_of first (element.Unit name ops latency ports) =
    record { name = name; ops = ops; latency = latency; ports = range_with_len first (length ports); out = first + length ports } ∷ []

-- the units of elements whose resources begin with number `first`
abbrev pub units_from : ℕ → List Element → List Unit
units_from first [] = []
units_from first (e ∷ es) = units_of first e ++ units_from (first + length (entries_of e)) es

-- the flat architecture
unfoldable pub arch_of : Parts → Arch
arch_of parts = record {
  name = parts.name;
  contexts = parts.contexts;
  memory = parts.memory;
  resources = map (resource_of (entries parts.elements)) (entries parts.elements);
  units = units_from 0 parts.elements;
  hub = map (number_in (entries parts.elements)) parts.hub;
}
