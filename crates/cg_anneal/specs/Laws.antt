-- The laws of how the walk ends.
use Rattle.std.specs.Prelude.{◌≡◌, ℕ, ◌≤◌, List}
use Rattle.cg_model.specs.Kernel.{Kernel}
use Rattle.cg_model.specs.Array.{Arch}
use Rattle.cg_model.specs.Mapping.{IsLegal}
use Rattle.cg_recur.specs.Recurrences.{AreEarliest}
use Rattle.cg_place.specs.Posed.{Posed, IsTask}
use Rattle.cg_check.specs.Legal as checks
use Rattle.cg_anneal.specs.declared.finding.Found.{Found}
use Rattle.cg_anneal.specs.declared.finding.Found.TheVariants.{Mapped}
use Rattle.cg_anneal.specs.Ended.{IsWalked}

-- a kernel has one list of earliest times at an interval
abbrev pub IsOneTime : Type 0
IsOneTime =
    (A : Arch) (K : Kernel) (ii : ℕ) (early other : List ℕ) → AreEarliest A K ii early →
    AreEarliest A K ii other → early ≡ other

-- architecture, kernel, interval, seed and number of moves determine how the walk ends
abbrev pub IsOneAnswer : Type 0
IsOneAnswer =
    (A : Arch) (K : Kernel) (ii seed moves : ℕ) (f g : Found) → IsWalked A K ii seed moves f →
    IsWalked A K ii seed moves g → f ≡ g

-- what the walk of a task finds is a legal mapping at its interval, after no more moves than `moves`
abbrev pub IsLegalEnd : Type 0
IsLegalEnd =
    (T : Posed) (seed moves k : ℕ) (m : checks.Mapped) → IsTask T → IsWalked T.arch T.kernel T.ii seed moves (Mapped m k) →
    (m.arch ≡ T.arch) × (m.kernel ≡ T.kernel) × (m.mapping.ii ≡ T.ii) × IsLegal T.arch T.kernel m.mapping × (k ≤ moves)
