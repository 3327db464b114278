-- The ways of data edges through an architecture, and the least number of registers on them.
use Rattle.std.specs.Prelude.{◌≡◌, ℕ, ◌+◌, ◌*◌, ◌<◌, ◌≤◌, List, [], Contains, Option, Some, None, slice_get, slice_index_or, length, unwrap_or}
use Rattle.cg_word.specs.declared.op.Op.{Op}
use Rattle.cg_model.specs.declared.kernel.Operand.TheVariants.{Edge}
use Rattle.cg_model.specs.Kernel.{Kernel, HasOperand, node}
use Rattle.cg_model.specs.Array.{Arch, unit}
use Rattle.cg_model.specs.Mapping.{Mapping, Goes, leaves, place}

-- a path along links leads from resource q to resource r, with n registers on it: a link into a register takes one
-- cycle, every other link none
abbrev pub Leads : Arch → ℕ → ℕ → ℕ → Type 0
Leads A q r n = (path : List ℕ) × Goes A q 0 path r n

-- a way of n registers from the out of unit x to port p of unit y
abbrev pub IsWay : Arch → ℕ → ℕ → ℕ → ℕ → Type 0
IsWay A x y p n = (port : ℕ) × (slice_get (unit A y).ports p ≡ Some port) × Leads A (unit A x).out port n

-- unit x offers the operation
abbrev pub Offers : Arch → ℕ → Op → Type 0
Offers A x op = (x < length A.units) × Contains (unit A x).ops op

-- units x and y may hold the ends of an edge from node u to node v at interval ii: they offer the operations of the
-- nodes, and are one unit if u is v, and two units if it isn't and the interval is 1, in which a unit holds one node
pub record MayHold (A : Arch) (K : Kernel) (ii u v x y : ℕ) : Type 0 where
  pub source : Offers A x (node K u).op
  pub target : Offers A y (node K v).op
  pub one : u ≡ v → x ≡ y
  pub apart : ii ≡ 1 → x ≡ y → u ≡ v

-- operand number p of node v is an edge, and there is a way of n registers for it at interval ii: from the out of a
-- unit to port p of a unit that may hold its ends
abbrev pub HasWay : Arch → Kernel → ℕ → ℕ → ℕ → ℕ → Type 0
HasWay A K ii v p n =
    (u : ℕ) × (d : ℕ) × (init : List ℕ) × HasOperand K v p (Edge u d init) ×
    (x : ℕ) × (y : ℕ) × MayHold A K ii u v x y × IsWay A x y p n

-- the least number with a property; None if no number has it
abbrev pub IsLeast : (ℕ → Type 0) → Option ℕ → Type 0
IsLeast P (Some n) = P n × ((m : ℕ) → P m → n ≤ m)
IsLeast P None = (n : ℕ) → P n → ⊥

-- the least number of registers on a way for operand number p of node v at interval ii; None if there is no way
abbrev pub AreLeastHops : Arch → Kernel → ℕ → ℕ → ℕ → Option ℕ → Type 0
AreLeastHops A K ii v p hops = IsLeast (HasWay A K ii v p) hops

-- entry p of row v of a table
abbrev pub hops_of : List (List (Option ℕ)) → ℕ → ℕ → Option ℕ
hops_of rows v p = slice_index_or (slice_index_or rows v []) p None

-- in a legal mapping there is a way for each edge, and the node that takes the value begins no earlier than the value
-- can pass the registers of the way with the fewest
abbrev pub KeepsHops : Arch → Kernel → Mapping → Type 0
KeepsHops A K M =
    (v p u d : ℕ) (init : List ℕ) (hops : Option ℕ) → HasOperand K v p (Edge u d init) → AreLeastHops A K M.ii v p hops →
    (n : ℕ) × (hops ≡ Some n) × (leaves A M u + n ≤ (place M v).time + M.ii * d)

-- each number of a table is the least one for its operand at interval ii
abbrev pub AreWays : Arch → Kernel → ℕ → List (List (Option ℕ)) → Type 0
AreWays A K ii rows = (v p : ℕ) → AreLeastHops A K ii v p (hops_of rows v p)

-- a number, if there is one, is at most `most`
abbrev pub IsSmall : ℕ → Option ℕ → Type 0
IsSmall most hops = (n : ℕ) → hops ≡ Some n → n ≤ most

-- each number of a table is at most `most`
abbrev pub AreSmall : ℕ → List (List (Option ℕ)) → Type 0
AreSmall most rows = (v p : ℕ) → IsSmall most (hops_of rows v p)

-- in a mapping the node that takes the value of an edge begins no earlier than the value can pass the number of
-- registers in a table
abbrev pub KeepsWays : Arch → Kernel → Mapping → List (List (Option ℕ)) → Type 0
KeepsWays A K M rows =
    (v p u d : ℕ) (init : List ℕ) → HasOperand K v p (Edge u d init) →
    leaves A M u + unwrap_or (hops_of rows v p) 0 ≤ (place M v).time + M.ii * d
