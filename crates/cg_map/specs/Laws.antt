-- The laws of the answers of a search.
use Rattle.std.specs.Prelude.{◌≡◌, ℕ, Option}
use Rattle.cg_model.specs.Kernel.{Kernel, IsKernel}
use Rattle.cg_model.specs.Array.{Arch, IsArch}
use Rattle.cg_model.specs.Mapping.{IsLegal}
use Rattle.cg_check.specs.Legal.{Mapped as MappedValue}
use Rattle.cg_intervals.specs.declared.answering.FoundBy.{FoundBy}
use Rattle.cg_intervals.specs.declared.answering.Answer.{Answer}
use Rattle.cg_intervals.specs.declared.answering.Answer.TheVariants.{Impossible, Mapped, Unmapped}
use Rattle.cg_hub.specs.Hub.{HubEnough}
use Rattle.cg_intervals.specs.Intervals.{IsAsked, last_tried}
use Rattle.cg_intervals.specs.Answers.{IsMapping}
use Rattle.cg_map.specs.declared.answering.Costs.{Costs}
use Rattle.cg_map.specs.Tried.{IsAnswer}

-- two answers that differ at most in the certificate that is shown
abbrev pub AreAlike : Answer Costs → Answer Costs → Type 0
AreAlike (Impossible c) (Impossible d) = Unit {0}
AreAlike (Mapped m found_by) (Mapped n by) = (m ≡ n) × (found_by ≡ by)
AreAlike (Unmapped c) (Unmapped d) = (c.first ≡ d.first) × (c.costs.items ≡ d.costs.items)
AreAlike _ _ = ⊥

-- all answers are alike
abbrev pub IsOneAnswer : Type 0
IsOneAnswer =
    (A : Arch) (K : Kernel) (asked : Option ℕ) (seed moves : ℕ) (a b : Answer Costs) → IsArch A → IsKernel K →
    IsAnswer A K asked seed moves a → IsAnswer A K asked seed moves b → AreAlike a b

-- there is an answer
abbrev pub IsAlwaysAnswered : Type 0
IsAlwaysAnswered =
    (A : Arch) (K : Kernel) (asked : Option ℕ) (seed moves : ℕ) → IsArch A → IsKernel K → IsAsked A asked →
    (a : Answer Costs) × IsAnswer A K asked seed moves a

-- a mapping in an answer is one of the kernel on the architecture, and legal
abbrev pub IsLegalAnswer : Type 0
IsLegalAnswer =
    (A : Arch) (K : Kernel) (asked : Option ℕ) (seed moves : ℕ) (m : MappedValue) (found_by : FoundBy) → IsArch A → IsKernel K →
    IsAsked A asked → IsAnswer A K asked seed moves (Mapped m found_by) →
    (m.arch ≡ A) × (m.kernel ≡ K) × IsLegal A K m.mapping

-- where the hub suffices at the last interval, the answer is a mapping
abbrev pub IsMappedByHub : Type 0
IsMappedByHub =
    (A : Arch) (K : Kernel) (asked : Option ℕ) (seed moves : ℕ) (a : Answer Costs) → IsArch A → IsKernel K → IsAsked A asked →
    HubEnough A K (last_tried A asked) → IsAnswer A K asked seed moves a → IsMapping a
