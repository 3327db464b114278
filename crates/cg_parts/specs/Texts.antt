-- The texts of architecture faults in reports.
use Rattle.std.specs.Prelude.{ℕ, List, [], ◌∷◌, ◌++◌, flat_map, codes, decimal}
use Rattle.cg_parts.specs.declared.fault.ArchFault.{ArchFault}
use Rattle.cg_parts.specs.declared.fault.ArchFault.TheVariants as arch
use Rattle.cg_parts.specs.declared.fault.TooLargePlace.{TooLargePlace}
use Rattle.cg_parts.specs.declared.fault.TooLargePlace.TheVariants as large
use Rattle.cg_parts.specs.declared.fault.NamePlace.{NamePlace}
use Rattle.cg_parts.specs.declared.fault.NamePlace.TheVariants as name
use Rattle.cg_parts.specs.declared.fault.DriverPlace.{DriverPlace}
use Rattle.cg_parts.specs.declared.fault.HubPlace.{HubPlace}
use Rattle.cg_parts.specs.declared.fault.HubPlace.TheVariants as hub

abbrev pub too_large_text : TooLargePlace → List ℕ
too_large_text large.Grid = codes "A1 TooLarge grid"
too_large_text large.Resources = codes "A1 TooLarge resources"
too_large_text large.Links = codes "A1 TooLarge links"
too_large_text large.Units = codes "A1 TooLarge units"
too_large_text large.Memory = codes "A1 TooLarge memory"

abbrev pub element_text : List ℕ → ℕ → List ℕ
element_text code number = code ++ (codes " element " ++ decimal number)

abbrev pub bad_name_text : NamePlace → List ℕ
bad_name_text name.Architecture = codes "A2 BadName architecture"
bad_name_text (name.Element number) = element_text (codes "A2 BadName") number

abbrev pub driver_text : List ℕ → DriverPlace → List ℕ
driver_text code p = code ++ (codes " element " ++ (decimal p.element ++ (codes " driver " ++ p.name)))

-- the names of a loop, each after a blank
abbrev pub spaced_names : List (List ℕ) → List ℕ
spaced_names names = flat_map (λ n. 32 ∷ n) names

abbrev pub hub_text : HubPlace → List ℕ
hub_text (hub.Entry n) = codes "A9 HubIncomplete hub " ++ n
hub_text (hub.Link from to) = codes "A9 HubIncomplete link " ++ (from ++ (codes " " ++ to))

-- the code, the name and the place
abbrev pub arch_fault_text : ArchFault → List ℕ
arch_fault_text arch.Memory = []
arch_fault_text (arch.TooLarge p) = too_large_text p
arch_fault_text (arch.BadName p) = bad_name_text p
arch_fault_text (arch.RepeatedName number) = element_text (codes "A3 RepeatedName") number
arch_fault_text (arch.UnknownDriver p) = driver_text (codes "A4 UnknownDriver") p
arch_fault_text (arch.PortDrives p) = driver_text (codes "A5 PortDrives") p
arch_fault_text (arch.ZeroDelayLoop names) = codes "A6 ZeroDelayLoop" ++ spaced_names names
arch_fault_text (arch.BadUnit number) = element_text (codes "A7 BadUnit") number
arch_fault_text (arch.BadContexts contexts) = codes "A8 BadContexts contexts " ++ decimal contexts
arch_fault_text (arch.HubIncomplete p) = hub_text p
