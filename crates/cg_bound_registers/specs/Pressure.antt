-- Register pressure: at most one value is in a register in a slot, so the stays of all values in registers add up to at
-- most the registers times the interval. A circulation of edges gives a lower bound on them, whatever the times of the
-- nodes (the lifetimes of Huff 1993, bounded by the duality of flows).
use Rattle.std.specs.Prelude.{◌≡◌, ℕ, zero, suc, ◌+◌, ◌-◌, ◌*◌, ◌<◌, ◌≤◌, eqb, max, if◌then◌else◌, Bool, true, false, List, [], ◌∷◌, Option, Some, None, slice_get, count_by}
use Rattle.cg_word.specs.declared.op.Op.{Op}
use Rattle.cg_word.specs.Sets.{among}
use Rattle.cg_model.specs.declared.kernel.Operand.{Operand}
use Rattle.cg_model.specs.declared.kernel.Operand.TheVariants.{Edge}
use Rattle.cg_model.specs.declared.kernel.OrderEdge.{OrderEdge}
use Rattle.cg_model.specs.Kernel.{Kernel, HasOperand, size, node}
use Rattle.cg_model.specs.declared.array.Kind.{Kind}
use Rattle.cg_model.specs.declared.array.Kind.TheVariants.{Wire, Register, Port, Out}
use Rattle.cg_model.specs.declared.array.Resource.{Resource}
use Rattle.cg_model.specs.declared.array.Unit.{Unit}
use Rattle.cg_model.specs.Array.{Arch}
use Rattle.cg_model.specs.Mapping.{Mapping, place, leaves}
use Rattle.cg_recur.specs.Edges.{latency}
use Rattle.cg_bound_registers.specs.declared.certificate.Stay.{Stay}
use Rattle.cg_bound_registers.specs.declared.certificate.Pull.{Pull}
use Rattle.cg_bound_registers.specs.declared.certificate.Tie.{Tie}
use Rattle.cg_bound_registers.specs.declared.certificate.Pressure.{Pressure}
pub use Rattle.cg_bound_registers.specs.declared.dependence.Dependence.{Dependence}

-- ---- edges, with the operands at which they end

-- operand p of node v, if it is an edge
abbrev pub of_operand : ℕ → ℕ → Option Operand → Option Dependence
of_operand v p (Some (Edge u d init)) = Some (record { source = u; target = v; arg = p; distance = d })
of_operand v p _ = None

-- an order edge
abbrev pub of_order : Option OrderEdge → Option Dependence
of_order (Some o) = Some (record { source = o.from; target = o.to; arg = 0; distance = o.distance })
of_order None = None

-- the data edge that is operand p of node v, and order edge number e
abbrev pub data_edge : Kernel → ℕ → ℕ → Option Dependence
data_edge K v p = of_operand v p (slice_get (node K v).operands p)

abbrev pub order_edge : Kernel → ℕ → Option Dependence
order_edge K e = of_order (slice_get K.order e)

-- ---- sums over the edges of a certificate

-- f of an edge; 0 if there is none
abbrev pub on_edge : (Dependence → ℕ) → Option Dependence → ℕ
on_edge f None = 0
on_edge f (Some a) = f a

-- the sum of f over the edges of a list, each times its weight
abbrev pub weigh : {X : Type 0} → (X → ℕ) → (X → Option Dependence) → (Dependence → ℕ) → List X → ℕ
weigh weight edge f [] = 0
weigh weight edge f (x ∷ xs) = weight x * on_edge f (edge x) + weigh weight edge f xs

-- the sums of f over the data edges whose stays count, and over the opposite data edges and order edges
abbrev pub stays : Kernel → Pressure → (Dependence → ℕ) → ℕ
stays K P f = weigh (λ (s : Stay). 1) (λ s. data_edge K s.node s.arg) f P.stays.items

abbrev pub pulls : Kernel → Pressure → (Dependence → ℕ) → ℕ
pulls K P f = weigh (λ (x : Pull). x.weight) (λ x. data_edge K x.node x.arg) f P.pulls.items

abbrev pub ties : Kernel → Pressure → (Dependence → ℕ) → ℕ
ties K P f = weigh (λ (x : Tie). x.weight) (λ x. order_edge K x.edge) f P.ties.items

-- 1 if an edge leaves node w, or enters it
abbrev pub one_if : Bool → ℕ
one_if b = if b then 1 else 0

abbrev pub from : ℕ → Dependence → ℕ
from w a = one_if (eqb a.source w)

abbrev pub into : ℕ → Dependence → ℕ
into w a = one_if (eqb a.target w)

-- the edges whose stays count, taken forward, and the others, taken backward, are a circulation, in which at most one
-- stay counts per source
pub record IsBalanced (K : Kernel) (P : Pressure) : Type 0 where
  pub one : (w : ℕ) → w < size K → stays K P (from w) ≤ 1
  pub circular : (w : ℕ) → w < size K →
      stays K P (into w) + pulls K P (from w) + ties K P (from w)
      ≡ stays K P (from w) + pulls K P (into w) + ties K P (into w)

-- ---- latencies and registers

-- the greatest latency of the units that offer an operation; 1 if no unit does
unfoldable pub most_latency : Op → List Unit → ℕ
most_latency op [] = 1
most_latency op (u ∷ us) = if among u.ops op then max u.latency (most_latency op us) else most_latency op us

-- f 0 + .. + f (n - 1)
abbrev pub total : ℕ → (ℕ → ℕ) → ℕ
total zero f = 0
total (suc n) f = total n f + f n

-- the sum of the least latencies of the nodes from which more edges are taken backward than forward, each times the
-- excess
abbrev pub gained : Arch → Kernel → Pressure → ℕ
gained A K P = total (size K) (λ w. (pulls K P (from w) - stays K P (from w)) * latency A (node K w).op)

-- the sum of the greatest latencies of the nodes from which more edges are taken forward than backward, each times the
-- excess
abbrev pub lost : Arch → Kernel → Pressure → ℕ
lost A K P = total (size K) (λ w. (stays K P (from w) - pulls K P (from w)) * most_latency (node K w).op A.units)

abbrev pub is_register : Kind → Bool
is_register Register = true
is_register Wire = false
is_register Port = false
is_register Out = false

-- the number of registers
abbrev pub registers : Arch → ℕ
registers A = count_by (λ (r : Resource). is_register r.kind) A.resources

-- ---- what a certificate shows

-- in a mapping the value of each data edge crosses at least `hops v p` registers on its way to operand p of node v
abbrev pub IsKept : Arch → Kernel → Mapping → (ℕ → ℕ → ℕ) → Type 0
IsKept A K M hops = (v p u d : ℕ) (init : List ℕ) → HasOperand K v p (Edge u d init) → leaves A M u + hops v p ≤ (place M v).time + M.ii * d

-- no registers on the ways
abbrev pub no_hops : ℕ → ℕ → ℕ
no_hops v p = 0

-- the gain along a circulation, and the loss
abbrev pub along : Arch → Kernel → (ℕ → ℕ → ℕ) → ℕ → Pressure → ℕ
along A K hops ii P = ii * stays K P (λ a. a.distance) + gained A K P + pulls K P (λ a. hops a.target a.arg) + ties K P (λ a. 1)

abbrev pub against : Arch → Kernel → ℕ → Pressure → ℕ
against A K ii P = ii * (pulls K P (λ a. a.distance) + ties K P (λ a. a.distance)) + lost A K P

-- a lower bound on the sum of its stays
abbrev pub least_stays : Arch → Kernel → (ℕ → ℕ → ℕ) → ℕ → Pressure → ℕ
least_stays A K hops ii P = along A K hops ii P - against A K ii P

-- the lower bound on the stays of a circulation exceeds the registers times the interval
abbrev pub IsExcess : Arch → Kernel → (ℕ → ℕ → ℕ) → ℕ → Pressure → Type 0
IsExcess A K hops ii P =
    ii * registers A + ii * (pulls K P (λ a. a.distance) + ties K P (λ a. a.distance)) + lost A K P
    < ii * stays K P (λ a. a.distance) + gained A K P + pulls K P (λ a. hops a.target a.arg) + ties K P (λ a. 1)

-- a certificate that no legal mapping has interval ii
pub record IsPressure (A : Arch) (K : Kernel) (hops : ℕ → ℕ → ℕ) (ii : ℕ) (P : Pressure) : Type 0 where
  pub balanced : IsBalanced K P
  pub excess : IsExcess A K hops ii P

-- no certificate excludes the interval
abbrev pub HasNoPressure : Arch → Kernel → (ℕ → ℕ → ℕ) → ℕ → Type 0
HasNoPressure A K hops ii = (P : Pressure) → IsPressure A K hops ii P → ⊥

-- the distances of the edges whose stays count are at most those of the others plus the registers: a certificate at an
-- interval is one at each smaller interval
abbrev pub Falls : Arch → Kernel → Pressure → Type 0
Falls A K P = stays K P (λ a. a.distance) ≤ pulls K P (λ a. a.distance) + ties K P (λ a. a.distance) + registers A

-- the distances of the edges whose stays count are at least those of the others plus the registers: a certificate at an
-- interval is one at each greater interval
abbrev pub Rises : Arch → Kernel → Pressure → Type 0
Rises A K P = pulls K P (λ a. a.distance) + ties K P (λ a. a.distance) + registers A ≤ stays K P (λ a. a.distance)

-- times that the edges allow on latencies that units have, with longest stays that fit in the registers: no certificate
-- excludes the interval
pub record IsLoose (A : Arch) (K : Kernel) (hops : ℕ → ℕ → ℕ) (ii : ℕ) (time lasts longest : ℕ → ℕ) : Type 0 where
  pub latencies : (w : ℕ) → w < size K →
      (latency A (node K w).op ≤ lasts w) × (lasts w ≤ most_latency (node K w).op A.units)
  pub edges : (v p : ℕ) (a : Dependence) → data_edge K v p ≡ Some a →
      time a.source + lasts a.source + hops a.target a.arg ≤ time a.target + ii * a.distance
  pub order : (e : ℕ) (a : Dependence) → order_edge K e ≡ Some a →
      time a.source + 1 ≤ time a.target + ii * a.distance
  pub stays : (v p : ℕ) (a : Dependence) → data_edge K v p ≡ Some a →
      time a.target + ii * a.distance ≤ time a.source + lasts a.source + longest a.source
  pub few : total (size K) longest ≤ ii * registers A
