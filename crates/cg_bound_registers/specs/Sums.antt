-- The sums over edges in the check of a certificate.
use Rattle.std.specs.Prelude.{ℕ, ◌+◌, ◌*◌, ◌^◌, ◌≤◌, List, length, slice_index}
use Rattle.cg_bound_registers.specs.declared.sums.Of.{Of}
use Rattle.cg_bound_registers.specs.declared.sums.Of.TheVariants.{From, Into, Distance, Hops, One}
use Rattle.cg_bound_registers.specs.declared.certificate.Pressure.{Pressure}
use Rattle.cg_bound_registers.specs.Pressure.{Dependence, from, into}

-- a table with three numbers per node, 0 past its end
abbrev pub table : List ℕ → ℕ → ℕ → ℕ
table hops v p = slice_index hops (3 * v + p)

-- the quantity of an edge that is summed
abbrev pub value_of : List ℕ → Of → Dependence → ℕ
value_of hops (From w) a = from w a
value_of hops (Into w) a = into w a
value_of hops Distance a = a.distance
value_of hops Hops a = table hops a.target a.arg
value_of hops One a = 1

-- its lists have at most 65,536 edges each
abbrev pub IsShort : Pressure → Type 0
IsShort p = (length p.stays.items ≤ 2 ^ 16) × (length p.pulls.items ≤ 2 ^ 16) × (length p.ties.items ≤ 2 ^ 16)
