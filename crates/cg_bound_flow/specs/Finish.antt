-- The result of a search for a certificate of pressure.
use Rattle.std.specs.Prelude.{◌≡◌, ℕ, ◌+◌, ◌-◌, ◌<◌, if◌then◌else◌, Bool, false, List, slice_index, slice_index_or}
use Rattle.cg_model.specs.Kernel.{Kernel}
use Rattle.cg_model.specs.Array.{Arch}
use Rattle.cg_bound_registers.specs.declared.certificate.Pressure.{Pressure}
use Rattle.cg_bound_registers.specs.declared.times.Times.{Times}
use Rattle.cg_bound_registers.specs.Pressure.{IsPressure}
use Rattle.cg_bound_registers.specs.Sums.{IsShort}
use Rattle.cg_bound_registers.specs.Times.{begins, lasts, longest, AreLoose}
use Rattle.cg_bound_flow.specs.declared.find.Outcome.{Outcome}
use Rattle.cg_bound_flow.specs.declared.find.Outcome.TheVariants.{Excluded, Open}

-- the greatest stay of a value that is routed
abbrev pub stay_of : ℕ → List ℕ → List Bool → ℕ → ℕ
stay_of n at routed w = if slice_index_or routed w false then slice_index at (n + n + w) - slice_index at (n + w) else 0

-- the times of places as times of nodes
pub record IsSchedule (n : ℕ) (at : List ℕ) (routed : List Bool) (t : Times) : Type 0 where
  pub time : (w : ℕ) → w < n → begins t w ≡ slice_index at w
  pub last : (w : ℕ) → w < n → lasts t w ≡ slice_index at (n + w) - slice_index at w
  pub stay : (w : ℕ) → w < n → longest t w ≡ stay_of n at routed w

-- a certificate whose lists are short
abbrev pub IsFound : Arch → Kernel → (ℕ → ℕ → ℕ) → ℕ → Pressure → Type 0
IsFound A K hops ii P = IsPressure A K hops ii P × IsShort P

-- a certificate, or times that rule out each certificate
abbrev pub IsSound : Arch → Kernel → (ℕ → ℕ → ℕ) → ℕ → Outcome → Type 0
IsSound A K hops ii (Excluded P) = IsFound A K hops ii P
IsSound A K hops ii (Open t) = AreLoose A K hops ii t
