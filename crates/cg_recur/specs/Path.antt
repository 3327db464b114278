-- The path back from a moment.
use Rattle.std.specs.Prelude.{◌≡◌, ℕ, zero, suc, ◌+◌, ◌<◌, ◌≤◌, List, [], ◌∷◌, length, slice_index}
use Rattle.cg_recur.specs.declared.edge.Edge.{Edge}
use Rattle.cg_recur.specs.declared.moments.Step.{Step}
use Rattle.cg_recur.specs.Log.{step, Follows}

-- moment number k of a path
abbrev pub moment : List Step → List ℕ → ℕ → Step
moment log path k = step log (slice_index path k)

-- each moment except the last follows the next one
pub record IsPath (es : List Edge) (ii n : ℕ) (log : List Step) (path : List ℕ) : Type 0 where
  pub known : (k : ℕ) → k < length path → slice_index path k < length log
  pub node : (k : ℕ) → k < length path → (moment log path k).node < n
  pub follows : (k : ℕ) → k + 1 < length path → Follows es ii log (slice_index path k) (moment log path k)
  pub back : (k : ℕ) → k + 1 < length path → (moment log path k).before ≡ slice_index path (k + 1)

-- a path of n + 1 moments
abbrev pub IsTrace : List Edge → ℕ → ℕ → List Step → List ℕ → Type 0
IsTrace es ii n log path = IsPath es ii n log path × (length path ≡ n + 1)

-- moments a and b are of one node, and those before b are of different ones
pub record IsRepeat (log : List Step) (path : List ℕ) (a b : ℕ) : Type 0 where
  pub order : a < b
  pub within : b < length path
  pub same : (moment log path a).node ≡ (moment log path b).node
  pub apart : (i j : ℕ) → i < j → j < b → (moment log path i).node ≡ (moment log path j).node → ⊥

-- moment c is of the least node from a on, up to b
pub record IsCut (log : List Step) (path : List ℕ) (a b c : ℕ) : Type 0 where
  pub above : a < c
  pub within : c ≤ b
  pub least : (k : ℕ) → a < k → k ≤ b → (moment log path c).node ≤ (moment log path k).node

-- the edges from moment a + k on to moment a
abbrev pub edges_between : List Step → List ℕ → ℕ → ℕ → List ℕ
edges_between log path a zero = []
edges_between log path a (suc k) = (moment log path (a + k)).edge ∷ edges_between log path a k
