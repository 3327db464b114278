-- How a search ends.
use Rattle.std.specs.Prelude.{◌≡◌, ℕ, ◌≤◌}
use Rattle.cg_model.specs.Kernel.{Kernel}
use Rattle.cg_model.specs.Array.{Arch}
use Rattle.cg_model.specs.Mapping.{Mapping, IsShaped, IsLegal}
use Rattle.cg_check.specs.Legal as checks
use Rattle.cg_check.specs.declared.checker.CheckVerdict.{CheckVerdict}
use Rattle.cg_check.specs.declared.checker.CheckVerdict.TheVariants.{Legal, Illegal}
use Rattle.cg_search_respond.specs.Faults.{faults_of}
use Rattle.cg_search_respond.specs.declared.responding.Responded.{Responded}
use Rattle.cg_search_respond.specs.declared.responding.Responded.TheVariants.{Mapped, Spent}

-- a legal mapping is of that architecture and kernel, at that interval
pub record IsOf (A : Arch) (K : Kernel) (ii : ℕ) (m : checks.Mapped) : Type 0 where
  pub arch : m.arch ≡ A
  pub kernel : m.kernel ≡ K
  pub interval : m.mapping.ii ≡ ii

-- a mapping of the kernel's shape at that interval, which isn't legal
pub record IsMissed (A : Arch) (K : Kernel) (ii : ℕ) (M : Mapping) : Type 0 where
  pub shape : IsShaped K M
  pub interval : M.ii ≡ ii
  pub illegal : IsLegal A K M → ⊥

-- either of these
abbrev pub IsJudged : Arch → Kernel → ℕ → CheckVerdict → Type 0
IsJudged A K ii (Legal m) = IsOf A K ii m
IsJudged A K ii (Illegal rule place M) = IsMissed A K ii M

-- a legal mapping after no more moves than `moves`; or a mapping that isn't legal, and its number of faults
abbrev pub IsResponded : Arch → Kernel → ℕ → ℕ → Responded → Type 0
IsResponded A K ii moves (Mapped m k) = IsOf A K ii m × (k ≤ moves)
IsResponded A K ii moves (Spent f M) = (f ≡ faults_of A K M) × IsMissed A K ii M
