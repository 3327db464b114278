-- No parts have out of memory as their fault.
use Rattle.std.proofs.Common.{◌≡◌, ℕ, ◌||◌, Bool, true, false, Option, Some, None, cond, nat_lt}
use Rattle.std.specs.Option.{option_map, option_or}
use Rattle.cg_parts.specs.Parts.{Parts, entries}
use Rattle.cg_parts.specs.Rules.{DriverPlace, TooLargePlace, NamePlace, first_driver, is_wrong, too_large, bad_name, repeated_name, fault_before_loops, unit_or_contexts_fault, first_from, is_bad_unit}
use Rattle.cg_parts.specs.declared.drivers.DriverRule.TheVariants.{UnknownDriver, PortDrives}
use Rattle.cg_parts.specs.declared.fault.ArchFault.TheVariants as fault

lowest : (large : Option TooLargePlace) (name : Option NamePlace) (repeated : Option ℕ) (unknown port : Option DriverPlace)
    → option_or (option_map fault.TooLarge large) (option_or (option_map fault.BadName name) (option_or (option_map fault.RepeatedName repeated)
    (option_or (option_map fault.UnknownDriver unknown) (option_map fault.PortDrives port)))) ≡ Some fault.Memory → ⊥
lowest (Some p) name repeated unknown port e = let bad : Some (fault.TooLarge p) ≡ Some fault.Memory = e in cc
lowest None (Some p) repeated unknown port e = let bad : Some (fault.BadName p) ≡ Some fault.Memory = e in cc
lowest None None (Some v) unknown port e = let bad : Some (fault.RepeatedName v) ≡ Some fault.Memory = e in cc
lowest None None None (Some p) port e = let bad : Some (fault.UnknownDriver p) ≡ Some fault.Memory = e in cc
lowest None None None None (Some p) e = let bad : Some (fault.PortDrives p) ≡ Some fault.Memory = e in cc
lowest None None None None None e = let none : None ≡ Some fault.Memory = e in cc

-- not among A1 to A5
pub early_never : (parts : Parts) → fault_before_loops parts ≡ Some fault.Memory → ⊥
unfolding fault_before_loops
early_never parts e =
    lowest (too_large parts (entries parts.elements)) (bad_name parts) (repeated_name parts.elements)
    (first_driver (is_wrong UnknownDriver (entries parts.elements)) 0 parts.elements) (first_driver (is_wrong PortDrives (entries parts.elements)) 0 parts.elements) e

lowest_late : (unit : Option ℕ) (b : Bool) (contexts : ℕ) → option_or (option_map fault.BadUnit unit) (cond b (Some (fault.BadContexts contexts)) None) ≡ Some fault.Memory → ⊥
lowest_late (Some v) b contexts e = let bad : Some (fault.BadUnit v) ≡ Some fault.Memory = e in cc
lowest_late None true contexts e = let bad : Some (fault.BadContexts contexts) ≡ Some fault.Memory = e in cc
lowest_late None false contexts e = let none : None ≡ Some fault.Memory = e in cc

-- nor among A7 and A8
pub unit_never : (parts : Parts) → unit_or_contexts_fault parts ≡ Some fault.Memory → ⊥
unfolding unit_or_contexts_fault
unit_never parts e = lowest_late (first_from (λ number e. is_bad_unit e) 0 parts.elements) (nat_lt parts.contexts 1 || nat_lt 64 parts.contexts) parts.contexts e
