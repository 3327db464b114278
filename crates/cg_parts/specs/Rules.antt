-- Where each of the faults A1 to A5, A7 and A8 applies first.
use Rattle.std.specs.Prelude.{ℕ, ◌+◌, ◌&&◌, ◌||◌, Bool, true, false, not, List, [], ◌∷◌, length, Option, Some, None, nat_lt, count_by, slice_get, option_map, if◌then◌else◌}
use Rattle.std.specs.Option.{option_or, option_map_or, is_none}
use Rattle.std.specs.List.{list_any}
use Rattle.cg_word.specs.Word.{arity, all_ops}
use Rattle.cg_word.specs.Sets.{among}
use Rattle.cg_model.specs.Names.{is_name}
pub use Rattle.cg_model.specs.First.{first_from, first_such}
use Rattle.cg_model.specs.First.{is_before}
use Rattle.cg_model.specs.declared.array.Kind.{Kind}
use Rattle.cg_model.specs.declared.array.Kind.TheVariants.{Wire, Register, Port, Out}
use Rattle.cg_parts.specs.Parts.{Element, Parts, Entry, entries, name_of, drivers_of, claims_of}
use Rattle.cg_parts.specs.Numbers.{number_of, claimer_of}
use Rattle.cg_parts.specs.declared.parts.Element.TheVariants as element
pub use Rattle.cg_parts.specs.declared.fault.ArchFault.{ArchFault}
use Rattle.cg_parts.specs.declared.fault.ArchFault.TheVariants as fault
pub use Rattle.cg_parts.specs.declared.fault.DriverPlace.{DriverPlace}
pub use Rattle.cg_parts.specs.declared.fault.TooLargePlace.{TooLargePlace}
use Rattle.cg_parts.specs.declared.fault.TooLargePlace.TheVariants as large
pub use Rattle.cg_parts.specs.declared.fault.NamePlace.{NamePlace}
use Rattle.cg_parts.specs.declared.fault.NamePlace.TheVariants as place
pub use Rattle.cg_parts.specs.declared.drivers.DriverRule.{DriverRule}
use Rattle.cg_parts.specs.declared.drivers.DriverRule.TheVariants.{UnknownDriver, PortDrives}
use Rattle.cg_model.specs.Limits.{longest_name, most_contexts, most_links, most_memory, most_resources, most_units}

-- ---- A1 TooLarge: too many resources, links, units or words of memory

-- the number of links into these resources, equal drivers counted once
abbrev pub links : List Entry → ℕ
links [] = 0
links (r ∷ rs) = length r.drivers + links rs

abbrev pub is_unit : Element → Bool
is_unit (element.Wire name drivers) = false
is_unit (element.Register name drivers) = false
is_unit (element.Unit name ops latency ports) = true

-- the first quantity, in this order, that is too large
abbrev pub too_large : Parts → List Entry → Option TooLargePlace
too_large parts resources =
    if nat_lt most_resources (length resources) then Some large.Resources else
    (if nat_lt most_links (links resources) then Some large.Links else
    (if nat_lt most_units (count_by is_unit parts.elements) then Some large.Units else
    (if nat_lt most_memory parts.memory then Some large.Memory else None)))

-- ---- A2 BadName: the architecture's or an element's name breaks the rule

-- the rule: a letter or `_`, then letters, digits or `_`, 1 to 40 characters
abbrev pub has_bad_name : Element → Bool
has_bad_name e = not (is_name longest_name (name_of e))

abbrev pub bad_name : Parts → Option NamePlace
bad_name parts = if not (is_name longest_name parts.name) then Some place.Architecture else option_map place.Element (first_from (λ number e. has_bad_name e) 0 parts.elements)

-- ---- A3 RepeatedName: an earlier element claims one of the element's names

-- the fault, by a function that gives the numbers of claimed names
abbrev pub repeats_by : (List ℕ → Option ℕ) → ℕ → Element → Bool
repeats_by claimer number e = list_any (λ claim. is_before (claimer claim) number) (claims_of e)

abbrev pub repeated_name : List Element → Option ℕ
repeated_name elements = first_from (repeats_by (claimer_of elements)) 0 elements

-- ---- A4 UnknownDriver: a driver names no resource; A5 PortDrives: it names a port

abbrev pub is_port : Kind → Bool
is_port Wire = false
is_port Register = false
is_port Port = true
is_port Out = false

abbrev pub is_port_at : List Entry → ℕ → Bool
is_port_at resources q = option_map_or (λ r. is_port r.kind) (slice_get resources q) false

-- the fault of a driver: it names no resource, or it names a port
abbrev pub is_wrong : DriverRule → List Entry → List ℕ → Bool
is_wrong UnknownDriver resources name = is_none (number_of resources name)
is_wrong PortDrives resources name = option_map_or (is_port_at resources) (number_of resources name) false

-- the first driver that passes a test, in the lists of the elements from number v on
abbrev pub first_driver : (List ℕ → Bool) → ℕ → List Element → Option DriverPlace
first_driver test v [] = None
first_driver test v (e ∷ es) = option_or (option_map (λ name. record { element = v; name = name }) (first_such test (drivers_of e))) (first_driver test (v + 1) es)

-- A4 at its first place, or else A5
abbrev pub wrong_driver : List Element → List Entry → Option ArchFault
wrong_driver elements resources = option_or
    (option_map fault.UnknownDriver (first_driver (is_wrong UnknownDriver resources) 0 elements))
    (option_map fault.PortDrives (first_driver (is_wrong PortDrives resources) 0 elements))

-- ---- A1 to A5

-- the lowest of A1 to A5 that applies, at its first place
unfoldable pub fault_before_loops : Parts → Option ArchFault
fault_before_loops parts = option_or
    (option_map fault.TooLarge (too_large parts (entries parts.elements)))
    (option_or (option_map fault.BadName (bad_name parts))
    (option_or (option_map fault.RepeatedName (repeated_name parts.elements))
    (wrong_driver parts.elements (entries parts.elements))))

-- ---- A7 BadUnit: a latency outside 1 to 4, more than three ports, no operation, or one that takes more arguments than
-- there are ports

abbrev pub is_bad_unit : Element → Bool
is_bad_unit (element.Wire name drivers) = false
is_bad_unit (element.Register name drivers) = false
is_bad_unit (element.Unit name ops latency ports) =
    nat_lt latency 1
    || (nat_lt 4 latency
    || (nat_lt 3 (length ports)
    || (not (list_any (among ops) all_ops)
    || list_any (λ op. among ops op && nat_lt (length ports) (arity op)) all_ops)))

abbrev pub bad_unit : Parts → Option ArchFault
bad_unit parts = option_map fault.BadUnit (first_from (λ number e. is_bad_unit e) 0 parts.elements)

-- ---- A8 BadContexts: not 1 to 64 contexts

abbrev pub bad_contexts : Parts → Option ArchFault
bad_contexts parts = if nat_lt parts.contexts 1 || nat_lt most_contexts parts.contexts then Some (fault.BadContexts parts.contexts) else None

-- A7, and A8 after it
unfoldable pub unit_or_contexts_fault : Parts → Option ArchFault
unit_or_contexts_fault parts = option_or (bad_unit parts) (bad_contexts parts)
