-- Times of nodes, as the check reads them.
use Rattle.std.specs.Prelude.{ℕ, ◌+◌, ◌*◌, ◌≤◌, List, slice_index}
use Rattle.cg_model.specs.Kernel.{Kernel, node}
use Rattle.cg_model.specs.Array.{Arch}
use Rattle.cg_recur.specs.Edges.{latency}
use Rattle.cg_bound_registers.specs.declared.times.Times.{Times}
use Rattle.cg_bound_registers.specs.Pressure.{Dependence, most_latency, IsLoose}
use Rattle.cg_bound_registers.specs.Sums.{table}

-- when node w begins, how long its operation lasts, and how long its value stays at most
abbrev pub begins : Times → ℕ → ℕ
begins t w = slice_index t.time.items w

abbrev pub lasts : Times → ℕ → ℕ
lasts t w = slice_index t.lasts.items w

abbrev pub longest : Times → ℕ → ℕ
longest t w = slice_index t.longest.items w

-- times whose stays fit in the registers
abbrev pub AreLoose : Arch → Kernel → (ℕ → ℕ → ℕ) → ℕ → Times → Type 0
AreLoose A K hops ii t = IsLoose A K hops ii (begins t) (lasts t) (longest t)

-- the times keep a data edge, and its stay is at most the longest one
abbrev pub Keeps : List ℕ → ℕ → Times → Dependence → Type 0
Keeps hops ii t a =
    (begins t a.source + lasts t a.source + table hops a.target a.arg ≤ begins t a.target + ii * a.distance)
    × (begins t a.target + ii * a.distance ≤ begins t a.source + lasts t a.source + longest t a.source)

-- the times keep an order edge
abbrev pub Follows : ℕ → Times → Dependence → Type 0
Follows ii t a = begins t a.source + 1 ≤ begins t a.target + ii * a.distance

-- a node's latency is one that a unit with its operation may have
abbrev pub Fits : Arch → Kernel → Times → ℕ → Type 0
Fits A K t w = (latency A (node K w).op ≤ lasts t w) × (lasts t w ≤ most_latency (node K w).op A.units)
