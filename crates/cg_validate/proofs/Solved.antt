-- Parts are an architecture, or have a fault.
use Rattle.std.proofs.Common.{◌≡◌, ◌≢◌, List, [], ℕ, Option, Some, None, Result, Ok, Err, refl, ap, ◌∙◌, ⊎_elim}
use Rattle.std.specs.Option.{option_map, option_or}
use Rattle.cg_model.specs.Array.{Arch}
use Rattle.cg_levelize.specs.Topological.{IsCombinationalLoop}
use Rattle.cg_levelize.proofs.Solved.{order_or_loop}
use Rattle.cg_parts.specs.declared.parts.Parts.{Parts}
use Rattle.cg_parts.specs.declared.fault.ArchFault.{ArchFault}
use Rattle.cg_parts.specs.declared.fault.ArchFault.TheVariants as fault
use Rattle.cg_parts.specs.declared.fault.HubPlace.{HubPlace}
use Rattle.cg_parts.specs.declared.fault.HubPlace.TheVariants as place
use Rattle.cg_parts.specs.Parts.{entries}
use Rattle.cg_parts.specs.Rules.{fault_before_loops, unit_or_contexts_fault}
use Rattle.cg_parts.proofs.Never.{early_never, unit_never}
use Rattle.cg_validate.specs.Flat.{arch_of}
use Rattle.cg_validate.specs.Hub.{hub_fault, first_bad_entry, missing_link}
use Rattle.cg_validate.specs.Answer.{IsAnswer, IsFault, HasNoCombinationalLoop, early, a_loop, late, fault_after_loops, names_of}
use Rattle.cg_validate.proofs.Answered.{drivers_known, no_loop}

-- ---- no fault is out of memory

incomplete_never : (o : Option HubPlace) → option_map fault.HubIncomplete o ≡ Some fault.Memory → ⊥
incomplete_never None e = let none : None ≡ Some fault.Memory = e in cc
incomplete_never (Some p) e = let bad : Some (fault.HubIncomplete p) ≡ Some fault.Memory = e in cc

hub_never : (parts : Parts) (A : Arch) → hub_fault parts A ≡ Some fault.Memory → ⊥
unfolding hub_fault
hub_never parts A e = incomplete_never (option_or (option_map place.Entry (first_bad_entry (entries parts.elements) [] parts.hub)) (missing_link A)) e

first_of_two : (o p : Option ArchFault) → (o ≡ Some fault.Memory → ⊥) → (p ≡ Some fault.Memory → ⊥) → option_or o p ≡ Some fault.Memory → ⊥
first_of_two (Some f) p left right e = left e
first_of_two None p left right e = right e

late_never : (parts : Parts) → fault_after_loops parts ≡ Some fault.Memory → ⊥
unfolding fault_after_loops
late_never parts e = first_of_two (unit_or_contexts_fault parts) (hub_fault parts (arch_of parts)) (unit_never parts) (hub_never parts (arch_of parts)) e

-- ---- answers

-- an answer of these parts that isn't out of memory
abbrev pub SomeAnswer : Parts → Type 0
SomeAnswer parts = (r : Result Arch ArchFault) × (r ≢ Err fault.Memory) × IsAnswer parts r

refused : (parts : Parts) (f : ArchFault) → f ≢ fault.Memory → IsFault parts f → SomeAnswer parts
refused parts f other is = (Err f, (λ e. let same : f ≡ fault.Memory = cc in other same), λ m. is)

not_memory : (o : Option ArchFault) (f : ArchFault) → o ≡ Some f → (o ≡ Some fault.Memory → ⊥) → f ≢ fault.Memory
not_memory o f is never e = never (is ∙ ap Some e)

ordered : (parts : Parts) → fault_before_loops parts ≡ None → HasNoCombinationalLoop parts → (o : Option ArchFault) → fault_after_loops parts ≡ o → SomeAnswer parts
ordered parts none rising None e = (Ok (arch_of parts), (λ bad. cc), record { early = none; no_loop = rising; late = e; is = refl })
ordered parts none rising (Some f) e = refused parts f (not_memory (fault_after_loops parts) f e (late_never parts)) (late none rising e)

looped : (parts : Parts) (loop : List ℕ) → fault_before_loops parts ≡ None → IsCombinationalLoop (arch_of parts).resources loop → SomeAnswer parts
looped parts loop none is = refused parts (fault.ZeroDelayLoop (names_of (arch_of parts) loop)) (λ e. cc) (a_loop none is)

judged_early : (parts : Parts) (o : Option ArchFault) → fault_before_loops parts ≡ o → SomeAnswer parts
judged_early parts (Some f) e = refused parts f (not_memory (fault_before_loops parts) f e (early_never parts)) (early e)
judged_early parts None e =
    ⊎_elim
    (λ order. ordered parts e (no_loop parts order.0 order.1) (fault_after_loops parts) refl)
    (λ loop. looped parts loop.0 e loop.1)
    (order_or_loop (arch_of parts).resources (drivers_known parts e))

-- any parts have an answer
pub some_answer : (parts : Parts) → SomeAnswer parts
some_answer parts = judged_early parts (fault_before_loops parts) refl
