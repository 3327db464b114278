-- The edges of a kernel on an architecture, by name.
use Rattle.std.specs.Prelude.{◌≡◌, ◌<◌, ◌⊎◌, ℕ, length, if◌then◌else◌, min, List, [], ◌∷◌, Option, Some, None, slice_get, unwrap_or}
use Rattle.cg_word.specs.declared.op.Op.{Op}
use Rattle.cg_word.specs.Sets.{among}
use Rattle.cg_model.specs.declared.kernel.Operand.{Operand}
use Rattle.cg_model.specs.declared.kernel.Operand.TheVariants.{Edge as DataEdge}
use Rattle.cg_model.specs.declared.kernel.OrderEdge.{OrderEdge}
use Rattle.cg_model.specs.declared.array.Unit.{Unit}
use Rattle.cg_model.specs.Kernel.{Kernel, node}
use Rattle.cg_model.specs.Array.{Arch}
pub use Rattle.cg_recur.specs.declared.edge.Edge.{Edge}
pub use Rattle.cg_recur.specs.declared.edge.EdgeId.{EdgeId}
pub use Rattle.cg_recur.specs.declared.edge.EdgeId.TheVariants.{Arg, Order}

-- the lesser of a number and another one, if there is another
abbrev pub lesser : ℕ → Option ℕ → ℕ
lesser l None = l
lesser l (Some m) = min l m

-- the least latency of the units that offer an operation, if one does
unfoldable pub least_latency : Op → List Unit → Option ℕ
least_latency op [] = None
least_latency op (u ∷ us) = if among u.ops op then Some (lesser u.latency (least_latency op us)) else least_latency op us

-- the latency of an operation: the least of the units that offer it, 1 if no unit does
abbrev pub latency : Arch → Op → ℕ
latency A op = unwrap_or (least_latency op A.units) 1

-- the edge of an operand of node v: it has the latency of its source's operation
abbrev pub of_operand : Arch → Kernel → ℕ → Option Operand → Option Edge
of_operand A K v (Some (DataEdge u d init)) = Some (record { source = u; target = v; latency = latency A (node K u).op; distance = d })
of_operand A K v _ = None

-- the edge of an order edge: it has latency 1
abbrev pub of_order : Option OrderEdge → Option Edge
of_order (Some o) = Some (record { source = o.from; target = o.to; latency = 1; distance = o.distance })
of_order None = None

-- the data edge that is operand p of node v, and the order edge number e
abbrev pub data_edge_of : Arch → Kernel → ℕ → ℕ → Option Edge
data_edge_of A K v p = of_operand A K v (slice_get (node K v).operands p)

abbrev pub order_edge_of : Kernel → ℕ → Option Edge
order_edge_of K e = of_order (slice_get K.order e)

-- the edge of a name, if the kernel has it
abbrev pub edge_of : Arch → Kernel → EdgeId → Option Edge
edge_of A K (Arg v p) = data_edge_of A K v p
edge_of A K (Order e) = order_edge_of K e

-- the order of names: the data edges by node and operand, and after them the order edges by number
abbrev pub ComesBefore : EdgeId → EdgeId → Type 0
ComesBefore (Arg v p) (Arg w q) = (v < w) ⊎ ((v ≡ w) × (p < q))
ComesBefore (Arg v p) (Order k) = Prim.Unit {0}
ComesBefore (Order j) (Arg w q) = ⊥
ComesBefore (Order j) (Order k) = j < k

-- no name is equal to, or comes after, a later one of the list
abbrev pub AreRising : List EdgeId → Type 0
AreRising names = (i j : ℕ) (x y : EdgeId) → i < j → slice_get names i ≡ Some x → slice_get names j ≡ Some y → ComesBefore x y

-- each name in the list names the edge at its place, each edge of the kernel is named, and the names are in order: this
-- determines the list
pub record AreEdges (A : Arch) (K : Kernel) (names : List EdgeId) (edges : List Edge) : Type 0 where
  pub each : length names ≡ length edges
  pub right : (k : ℕ) (x : EdgeId) (e : Edge) → slice_get names k ≡ Some x → slice_get edges k ≡ Some e → edge_of A K x ≡ Some e
  pub whole : (x : EdgeId) (e : Edge) → edge_of A K x ≡ Some e → (k : ℕ) × (slice_get names k ≡ Some x)
  pub rising : AreRising names
