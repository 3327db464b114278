-- The least total distance of the chains between two nodes.
use Rattle.std.specs.Prelude.{ℕ, ◌≤◌}
use Rattle.cg_model.specs.Kernel.{Kernel}
use Rattle.cg_model.specs.Order.{Chain}

-- a non-empty chain of edges leads from u to v with total distance d, and none with a smaller one
pub record IsLeast (K : Kernel) (u v d : ℕ) : Type 0 where
  pub chain : Chain K u v d
  pub least : (e : ℕ) → Chain K u v e → d ≤ e

-- no chain of edges leads from u to v
abbrev pub HasNoChain : Kernel → ℕ → ℕ → Type 0
HasNoChain K u v = (d : ℕ) → Chain K u v d → ⊥
