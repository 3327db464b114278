-- The log of the moments at which a node's time rose.
use Rattle.std.specs.Prelude.{◌≡◌, ℕ, ◌+◌, ◌*◌, ◌^◌, ◌<◌, ◌≤◌, ◌⊎◌, List, length, Some, slice_get, slice_index, slice_index_or, Bool, true, false}
use Rattle.cg_recur.specs.declared.edge.Edge.{Edge}
use Rattle.cg_recur.specs.Chain.{IsTight}
use Rattle.cg_recur.specs.declared.moments.Step.{Step}
use Rattle.cg_recur.specs.declared.moments.Outcome.{Outcome}
use Rattle.cg_recur.specs.declared.moments.Outcome.TheVariants.{Same, Raised, Deep}

-- each edge joins nodes below n, and its latency is small
abbrev pub IsWithin : List Edge → ℕ → Type 0
IsWithin es n = (k : ℕ) (e : Edge) → slice_get es k ≡ Some e → (e.source < n) × (e.target < n) × (e.latency < 2 ^ 16)

-- the value of `step` past the end of a log
abbrev pub no_step : Step
no_step = record { node = 0; edge = 0; before = 0; time = 0; depth = 0 }

-- moment number i of a log
abbrev pub step : List Step → ℕ → Step
step log i = slice_index_or log i no_step

-- a moment is the start of its node: time 0, by no edge
abbrev pub Starts : Step → Type 0
Starts s = (s.depth ≡ 0) × (s.time ≡ 0)

-- moment i follows an earlier moment by an edge, at its time plus the latency less ii times the distance
pub record Follows (es : List Edge) (ii : ℕ) (log : List Step) (i : ℕ) (s : Step) : Type 0 where
  pub earlier : s.before < i
  pub by : Edge
  pub is : slice_get es s.edge ≡ Some by
  pub source : by.source ≡ (step log s.before).node
  pub target : by.target ≡ s.node
  pub sum : (step log s.before).time + by.latency ≡ s.time + ii * by.distance
  pub deeper : s.depth ≡ (step log s.before).depth + 1

-- moment i is a start, or follows an earlier one; its time is bounded by its edges
pub record IsStep (es : List Edge) (ii n : ℕ) (log : List Step) (i : ℕ) (s : Step) : Type 0 where
  pub node : s.node < n
  pub from : Starts s ⊎ Follows es ii log i s
  pub small : s.time ≤ s.depth * 2 ^ 16

-- a log of moments of this form, in which each node's times rise; `last` has the latest moment of each node
pub record IsLog (es : List Edge) (ii n : ℕ) (log : List Step) (last : List ℕ) : Type 0 where
  pub steps : (i : ℕ) → i < length log → IsStep es ii n log i (step log i)
  pub rising : (i j : ℕ) → i < j → j < length log → (step log i).node ≡ (step log j).node → (step log i).time < (step log j).time
  pub each : length last ≡ n
  pub known : (v : ℕ) → v < n → slice_index last v < length log
  pub its : (v : ℕ) → v < n → (step log (slice_index last v)).node ≡ v
  pub latest : (i : ℕ) → i < length log → (step log i).time ≤ (step log (slice_index last (step log i).node)).time

-- no moment comes by n edges
abbrev pub IsShallow : ℕ → List Step → Type 0
IsShallow n log = (i : ℕ) → i < length log → (step log i).depth < n

-- the time of a node so far
abbrev pub time_of : List Step → List ℕ → ℕ → ℕ
time_of log last v = (step log (slice_index last v)).time

-- the number of edges up to its time
abbrev pub depth_of : List Step → List ℕ → ℕ → ℕ
depth_of log last v = (step log (slice_index last v)).depth

-- an edge requires no more than the times give
abbrev pub IsSlack : ℕ → List Step → List ℕ → Edge → Type 0
IsSlack ii log last e = time_of log last e.source + e.latency ≤ time_of log last e.target + ii * e.distance

-- in round r, after the first j edges: what an edge still requires comes by a chain of r edges, for those first by one
-- of r + 1
abbrev pub IsSettled : List Edge → ℕ → ℕ → ℕ → List Step → List ℕ → Type 0
IsSettled es ii r j log last =
    (k : ℕ) (e : Edge) → slice_get es k ≡ Some e →
    (k < j → IsSlack ii log last e ⊎ (r + 1 ≤ depth_of log last e.source)) × (IsSlack ii log last e ⊎ (r ≤ depth_of log last e.source))

-- the last moment comes by n edges
abbrev pub IsDeep : ℕ → List Step → Type 0
IsDeep n log = (i : ℕ) × (length log ≡ i + 1) × ((step log i).depth ≡ n)

-- what a visit of edge j leaves
abbrev pub IsNext : List Edge → ℕ → ℕ → ℕ → List Step → List ℕ → List Step → List ℕ → Type 0
IsNext es ii n j log last log' last' =
    IsLog es ii n log' last' × ((r : ℕ) → IsSettled es ii r j log last → IsSettled es ii r (j + 1) log' last')

-- nothing rose, since edge j is slack
abbrev pub IsStill : List Edge → ℕ → ℕ → List Step → List ℕ → List Step → List ℕ → Type 0
IsStill es ii j log last log' last' = (log' ≡ log) × (last' ≡ last) × ((e : Edge) → slice_get es j ≡ Some e → IsSlack ii log last e)

-- the first j edges are slack
abbrev pub AreSlack : List Edge → ℕ → ℕ → List Step → List ℕ → Type 0
AreSlack es ii j log last = (k : ℕ) (e : Edge) → k < j → slice_get es k ≡ Some e → IsSlack ii log last e

-- what a visit of edge j leaves, by its outcome
abbrev pub IsRelaxed : List Edge → ℕ → ℕ → ℕ → List Step → List ℕ → List Step → List ℕ → Outcome → Type 0
IsRelaxed es ii n j log last log' last' Same = IsNext es ii n j log last log' last' × IsShallow n log' × IsStill es ii j log last log' last'
IsRelaxed es ii n j log last log' last' Raised = IsNext es ii n j log last log' last' × IsShallow n log'
IsRelaxed es ii n j log last log' last' Deep = IsLog es ii n log' last' × IsDeep n log'

-- each node at its start
abbrev pub IsBegun : ℕ → List Step → Type 0
IsBegun n log = (length log ≡ n) × ((i : ℕ) → i < n → ((step log i).node ≡ i) × ((step log i).depth ≡ 0) × ((step log i).time ≡ 0))

-- the numbers below n
abbrev pub IsCounting : ℕ → List ℕ → Type 0
IsCounting n last = (length last ≡ n) × ((i : ℕ) → i < n → slice_index last i ≡ i)

-- the time of each node by the log
abbrev pub AreTimes : List Step → List ℕ → List ℕ → Type 0
AreTimes log last ts = (length ts ≡ length last) × ((v : ℕ) → v < length last → slice_index ts v ≡ time_of log last v)

-- the result of the rounds: a log whose last moment comes by n edges, or one without a moment of this depth, in which
-- each edge is slack
abbrev pub IsMade : List Edge → ℕ → ℕ → List Step → List ℕ → Bool → Type 0
IsMade es ii n log last true = IsLog es ii n log last × IsDeep n log
IsMade es ii n log last false = IsLog es ii n log last × IsShallow n log × IsTight (slice_get es) ii (time_of log last)
