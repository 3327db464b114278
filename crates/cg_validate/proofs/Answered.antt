-- What parts without early faults, and parts without faults, are.
use Rattle.std.proofs.Common.{◌≡◌, ℕ, ◌≤◌, List, length, None, arith}
use Rattle.cg_model.specs.Array.{IsArch}
use Rattle.cg_model.proofs.Options.{or_none}
use Rattle.cg_levelize.specs.Topological.{IsTopological, AreKnown}
use Rattle.cg_levelize.proofs.Levels.{place_of, order_levels, order_no_loop}
use Rattle.cg_parts.specs.declared.parts.Parts.{Parts}
use Rattle.cg_parts.specs.Rules.{fault_before_loops, unit_or_contexts_fault}
use Rattle.cg_validate.specs.Flat.{arch_of}
use Rattle.cg_validate.specs.Hub.{hub_fault}
use Rattle.cg_validate.specs.Answer.{fault_after_loops, HasNoCombinationalLoop}
use Rattle.cg_validate.proofs.Clean.{clean}
use Rattle.cg_validate.proofs.Resources.{size, known}
use Rattle.cg_validate.proofs.Valid.{valid}

pub few : (parts : Parts) → fault_before_loops parts ≡ None → length (arch_of parts).resources ≤ 4096
unfolding arch_of
few parts early = let long = size parts in let most = (clean parts early).resources in omega (arith, long, most)

pub drivers_known : (parts : Parts) → fault_before_loops parts ≡ None → AreKnown (arch_of parts).resources
unfolding arch_of
drivers_known parts early = known parts (clean parts early)

pub no_loop : (parts : Parts) (order : List ℕ) → IsTopological (arch_of parts).resources order → HasNoCombinationalLoop parts
no_loop parts order rising = λ loop is. order_no_loop (arch_of parts).resources order loop rising is

late_parts : (parts : Parts) → fault_after_loops parts ≡ None → (unit_or_contexts_fault parts ≡ None) × (hub_fault parts (arch_of parts) ≡ None)
unfolding fault_after_loops
late_parts parts late = or_none (unit_or_contexts_fault parts) (hub_fault parts (arch_of parts)) late

pub valid_by : (parts : Parts) (order : List ℕ) → fault_before_loops parts ≡ None → fault_after_loops parts ≡ None → IsTopological (arch_of parts).resources order → IsArch (arch_of parts)
valid_by parts order early late rising =
    let levels = order_levels (arch_of parts).resources order rising in
    let none = late_parts parts late in
    valid parts early none.0 none.1 (place_of order) levels.levels (λ q r driver at_once. levels.rising q r (record { driver = driver; at_once = at_once }))
