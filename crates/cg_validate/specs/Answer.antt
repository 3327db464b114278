-- The architecture that parts define, or why they define none.
use Rattle.std.specs.Prelude.{◌≡◌, ◌≢◌, ℕ, List, map, Option, Some, None, Result, Ok, Err}
use Rattle.std.specs.Option.{option_or}
use Rattle.cg_model.specs.Array.{Arch, resource}
use Rattle.cg_levelize.specs.Topological.{IsCombinationalLoop}
use Rattle.cg_parts.specs.declared.parts.Parts.{Parts}
use Rattle.cg_parts.specs.declared.fault.ArchFault.{ArchFault}
use Rattle.cg_parts.specs.declared.fault.ArchFault.TheVariants as fault
use Rattle.cg_parts.specs.Rules.{fault_before_loops, unit_or_contexts_fault}
use Rattle.cg_validate.specs.Flat.{arch_of}
use Rattle.cg_validate.specs.Hub.{hub_fault}

-- the lowest of A7 to A9 that applies, at its first place
unfoldable pub fault_after_loops : Parts → Option ArchFault
fault_after_loops parts = option_or (unit_or_contexts_fault parts) (hub_fault parts (arch_of parts))

-- no links of delay 0 form a loop
abbrev pub HasNoCombinationalLoop : Parts → Type 0
HasNoCombinationalLoop parts = (loop : List ℕ) → IsCombinationalLoop (arch_of parts).resources loop → ⊥

-- the names of resources
abbrev pub names_of : Arch → List ℕ → List (List ℕ)
names_of A = map (λ r. (resource A r).name)

-- a fault of parts: the lowest of A1 to A5, or else any one of the loops (A6), or else the lowest of A7 to A9, each at
-- its first place
pub data IsFault (parts : Parts) : ArchFault → Type 0 where
  early : {f : ArchFault} → fault_before_loops parts ≡ Some f → IsFault parts f
  a_loop : {loop : List ℕ} → fault_before_loops parts ≡ None → IsCombinationalLoop (arch_of parts).resources loop → IsFault parts (fault.ZeroDelayLoop (names_of (arch_of parts) loop))
  late : {f : ArchFault} → fault_before_loops parts ≡ None → HasNoCombinationalLoop parts → fault_after_loops parts ≡ Some f → IsFault parts f

-- parts have no fault and define that architecture
pub record AreValid (parts : Parts) (A : Arch) : Type 0 where
  pub early : fault_before_loops parts ≡ None
  pub no_loop : HasNoCombinationalLoop parts
  pub late : fault_after_loops parts ≡ None
  pub is : A ≡ arch_of parts

-- the result of validation, unless memory ran out
abbrev pub IsAnswer : Parts → Result Arch ArchFault → Type 0
IsAnswer parts (Ok A) = AreValid parts A
IsAnswer parts (Err f) = f ≢ fault.Memory → IsFault parts f
