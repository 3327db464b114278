-- The least interval that neither a recurrence nor an overfull set of operations forbids (the lower bound on the
-- interval of modulo scheduling, Rau 1994), and what is shown of an interval that is impossible.
use Rattle.std.specs.Prelude.{◌≡◌, ℕ, ◌-◌, ◌<◌, ◌≤◌, ◌⊎◌, ⊤, false, List, [], ◌∷◌, length, Option, Some, None}
use Rattle.cg_word.specs.declared.op.Op.{Op}
use Rattle.cg_word.specs.Word.{code}
use Rattle.cg_word.specs.Sets.{among}
use Rattle.cg_model.specs.Kernel.{Kernel, node, size}
use Rattle.cg_model.specs.Array.{Arch, unit}
use Rattle.cg_model.specs.Mapping.{Mapping, IsLegal}
use Rattle.cg_recur.specs.declared.edge.EdgeId.{EdgeId}
use Rattle.cg_recur.specs.Edges.{edge_of}
use Rattle.cg_recur.specs.Chain.{IsShown}
use Rattle.cg_recur.specs.Recurrences.{IsRecurrence}
pub use Rattle.cg_recur.specs.Recurrences.{HasNoRecurrence}
use Rattle.cg_class.specs.Class.{IsOverfull, AreOfNodes}
use Rattle.cg_bound.specs.declared.interval.Certificate.{Certificate}
use Rattle.cg_bound.specs.declared.interval.Certificate.TheVariants.{Cycle, Class}
use Rattle.cg_bound.specs.declared.interval.IntervalVerdict.{IntervalVerdict}
use Rattle.cg_bound.specs.declared.interval.IntervalVerdict.TheVariants.{Impossible, Allowed}
use Rattle.cg_bound.specs.declared.interval.LeastInterval.{LeastInterval}

-- ---- intervals

-- no set of operations has more nodes than its units can begin in ii cycles
abbrev pub HasNoOverfull : Arch → Kernel → ℕ → Type 0
HasNoOverfull A K ii = (set : List Op) → IsOverfull A K ii set → ⊥

-- a recurrence or an overfull set forbids the interval
abbrev pub IsForbidden : Arch → Kernel → ℕ → Type 0
IsForbidden A K ii = ((ids : List EdgeId) × IsRecurrence A K ii ids) ⊎ ((set : List Op) × IsOverfull A K ii set)

-- neither a recurrence nor an overfull set forbids the interval
pub record IsOpen (A : Arch) (K : Kernel) (ii : ℕ) : Type 0 where
  pub no_recurrence : HasNoRecurrence A K ii
  pub no_overfull : HasNoOverfull A K ii

-- m is the least interval that is open, and each lower one is forbidden
pub record IsMii (A : Arch) (K : Kernel) (m : ℕ) : Type 0 where
  pub positive : 1 ≤ m
  pub free : IsOpen A K m
  pub below : (ii : ℕ) → 1 ≤ ii → ii < m → IsForbidden A K ii

-- ---- operations that no unit offers

-- some node has the operation, and no unit offers it
pub record IsUnoffered (A : Arch) (K : Kernel) (op : Op) : Type 0 where
  pub own : (v : ℕ) × (v < size K) × ((node K v).op ≡ op)
  pub none : (x : ℕ) → x < length A.units → among (unit A x).ops op ≡ false

-- each operation of a node is offered
abbrev pub AllOffered : Arch → Kernel → Type 0
AllOffered A K = (op : Op) → IsUnoffered A K op → ⊥

-- the operation of least code of those that no unit offers
pub record IsFirstUnoffered (A : Arch) (K : Kernel) (op : Op) : Type 0 where
  pub unoffered : IsUnoffered A K op
  pub least : (other : Op) → IsUnoffered A K other → code op ≤ code other

-- ---- certificates

-- the certificate is right: a closed chain that is too long, or an overfull set of operations of nodes
abbrev pub Certifies : Arch → Kernel → ℕ → Certificate → Type 0
Certifies A K ii (Cycle ids) = IsRecurrence A K ii ids.items
Certifies A K ii (Class set) = IsOverfull A K ii set × AreOfNodes K set

-- the set with only the first unoffered operation
abbrev pub ShowsUnoffered : Arch → Kernel → Certificate → Type 0
ShowsUnoffered A K (Cycle ids) = ⊥
ShowsUnoffered A K (Class set) = (op : Op) × IsFirstUnoffered A K op × (set ≡ op ∷ [])

-- if each operation is offered: a recurrence in its shown form, if there is one, and else an overfull set of operations
-- of nodes
abbrev pub ShowsForbidden : Arch → Kernel → ℕ → Certificate → Type 0
ShowsForbidden A K ii (Cycle ids) = IsRecurrence A K ii ids.items × IsShown (edge_of A K) ids.items
ShowsForbidden A K ii (Class set) = HasNoRecurrence A K ii × IsOverfull A K ii set × AreOfNodes K set

-- what is shown of an impossible interval
abbrev pub Shows : Arch → Kernel → ℕ → Certificate → Type 0
Shows A K ii certificate = ShowsUnoffered A K certificate ⊎ (AllOffered A K × ShowsForbidden A K ii certificate)

-- ---- answers

-- what is shown if the interval is impossible; else an open interval
abbrev pub IsVerdict : Arch → Kernel → ℕ → IntervalVerdict → Type 0
IsVerdict A K ii (Impossible certificate) = Shows A K ii certificate
IsVerdict A K ii Allowed = IsOpen A K ii

-- the certificate of an impossible interval is right
abbrev pub HasCertificate : Arch → Kernel → ℕ → IntervalVerdict → Type 0
HasCertificate A K ii (Impossible certificate) = Certifies A K ii certificate
HasCertificate A K ii Allowed = ⊤

-- and no mapping at the interval is legal
abbrev pub Excludes : Arch → Kernel → ℕ → IntervalVerdict → Type 0
Excludes A K ii (Impossible certificate) = (M : Mapping) → M.ii ≡ ii → IsLegal A K M → ⊥
Excludes A K ii Allowed = ⊤

-- what is shown of the interval below m: nothing exactly if m is 1
abbrev pub IsShownBelow : Arch → Kernel → ℕ → Option Certificate → Type 0
IsShownBelow A K m None = m ≡ 1
IsShownBelow A K m (Some certificate) = (1 < m) × Shows A K (m - 1) certificate

-- the least interval, with what is shown below it; or none, exactly if an operation is unoffered, which is shown
abbrev pub IsBoundBy : Arch → Kernel → Option ℕ → Option Certificate → Type 0
IsBoundBy A K (Some m) below = AllOffered A K × IsMii A K m × IsShownBelow A K m below
IsBoundBy A K None (Some certificate) = ShowsUnoffered A K certificate
IsBoundBy A K None None = ⊥

abbrev pub IsBound : Arch → Kernel → LeastInterval → Type 0
IsBound A K bound = IsBoundBy A K bound.mii bound.below
