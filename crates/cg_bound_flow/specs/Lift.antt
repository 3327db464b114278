-- Lifting places together.
use Rattle.std.specs.Prelude.{◌≡◌, ℕ, ◌+◌, ◌^◌, ◌<◌, ◌≤◌, List, length, slice_index, Option, Some, None}
use Rattle.cg_bound_flow.specs.declared.network.Link.{Link}
use Rattle.cg_bound_flow.specs.declared.reach.Reached.{Reached}
use Rattle.cg_bound_flow.specs.Network.{link, AreKept}
use Rattle.cg_bound_flow.specs.Reach.{IsReached}

-- a link that leaves the reached places lets them rise by the given number of cycles
abbrev pub LetsRise : List Link → List ℕ → List ℕ → ℕ → ℕ → Type 0
LetsRise links at order by k =
    0 < slice_index order (link links k).from → slice_index order (link links k).to ≡ 0 →
    slice_index at (link links k).from + (link links k).gain + by ≤ slice_index at (link links k).to + (link links k).loss

-- the reached places rose by the given number of cycles
pub record IsRisen (order at : List ℕ) (by : ℕ) (at' : List ℕ) : Type 0 where
  pub risen : (x : ℕ) → 0 < slice_index order x → slice_index at' x ≡ slice_index at x + by
  pub still : (x : ℕ) → slice_index order x ≡ 0 → slice_index at' x ≡ slice_index at x

-- the end of a lift: `start` rose by `need`, or by less once `goal` was reached
abbrev pub IsEnd : List Link → ℕ → List ℕ → List ℕ → List ℕ → ℕ → ℕ → ℕ → Option Reached → Type 0
IsEnd links count flow at at' start goal need None = slice_index at' start ≡ slice_index at start + need
IsEnd links count flow at at' start goal need (Some r) =
    IsReached links count flow at' start goal r × (0 < slice_index r.order.items goal) × (slice_index at' start < slice_index at start + need)

-- `start` was lifted, and the links stay kept
pub record IsLifted (links : List Link) (count : ℕ) (flow at : List ℕ) (start goal need : ℕ) (at' : List ℕ) (end : Option Reached) : Type 0 where
  pub kept : AreKept links count flow at'
  pub each : length at' ≡ length at
  pub near : (most : ℕ) → ((x : ℕ) → slice_index at x ≤ most) → (x : ℕ) → slice_index at' x ≤ most + 2 ^ 45
  pub fixed : slice_index at' goal ≡ slice_index at goal
  pub ends : IsEnd links count flow at at' start goal need end

-- during a lift, with `left` cycles to go
pub record IsLifting (links : List Link) (count : ℕ) (flow at : List ℕ) (start goal need : ℕ) (at' : List ℕ) (left : ℕ) : Type 0 where
  pub kept : AreKept links count flow at'
  pub each : length at' ≡ length at
  pub near : (most : ℕ) → ((x : ℕ) → slice_index at x ≤ most) → (x : ℕ) → slice_index at' x ≤ most + 2 ^ 45
  pub fixed : slice_index at' goal ≡ slice_index at goal
  pub rest : slice_index at' start + left ≡ slice_index at start + need
