-- The network of a kernel on an architecture: node w begins at place w, its value leaves at place n + w, and is used
-- for the last time at place n + n + w, where n is the number of nodes.
use Rattle.std.specs.Prelude.{◌≡◌, ℕ, ◌+◌, ◌*◌, ◌<◌, ◌≤◌, List, length, Some}
use Rattle.cg_model.specs.Kernel.{Kernel, node, size}
use Rattle.cg_model.specs.Array.{Arch}
use Rattle.cg_recur.specs.Edges.{latency}
use Rattle.cg_bound_registers.specs.declared.dependence.Dependence.{Dependence}
use Rattle.cg_bound_registers.specs.Pressure.{data_edge, order_edge, most_latency}
use Rattle.cg_bound_flow.specs.declared.network.Link.{Link}
use Rattle.cg_bound_flow.specs.declared.network.Part.{Part}
use Rattle.cg_bound_flow.specs.declared.network.Part.TheVariants.{Least, Most, Pull, Stay, Tie}
use Rattle.cg_bound_flow.specs.Network.{link}

-- a link is the one of the given part
abbrev pub Stands : Arch → Kernel → (ℕ → ℕ → ℕ) → ℕ → Link → Part → Type 0
Stands A K hops ii l (Least w) = (w < size K) × (l.from ≡ w) × (l.to ≡ size K + w) × (l.gain ≡ latency A (node K w).op) × (l.loss ≡ 0)
Stands A K hops ii l (Most w) = (w < size K) × (l.from ≡ size K + w) × (l.to ≡ w) × (l.gain ≡ 0) × (l.loss ≡ most_latency (node K w).op A.units)
Stands A K hops ii l (Pull v p) =
    (a : Dependence) × (data_edge K v p ≡ Some a) × (l.from ≡ size K + a.source) × (l.to ≡ a.target) × (l.gain ≡ hops a.target a.arg) × (l.loss ≡ ii * a.distance)
Stands A K hops ii l (Stay v p) =
    (a : Dependence) × (data_edge K v p ≡ Some a) × (l.from ≡ a.target) × (l.to ≡ size K + size K + a.source) × (l.gain ≡ ii * a.distance) × (l.loss ≡ 0)
Stands A K hops ii l (Tie e) =
    (a : Dependence) × (order_edge K e ≡ Some a) × (l.from ≡ a.source) × (l.to ≡ a.target) × (l.gain ≡ 1) × (l.loss ≡ ii * a.distance)

-- each link is the one of its part
abbrev pub AllStand : Arch → Kernel → (ℕ → ℕ → ℕ) → ℕ → List Link → Type 0
AllStand A K hops ii links = (k : ℕ) → k < length links → Stands A K hops ii (link links k) (link links k).part

-- some link is that of the part
abbrev pub Has : List Link → Part → Type 0
Has links part = (k : ℕ) × (k < length links) × ((link links k).part ≡ part)

-- both links of a node, those of a data edge, and that of an order edge
abbrev pub HasNode : List Link → ℕ → Type 0
HasNode links w = Has links (Least w) × Has links (Most w)

abbrev pub HasData : Kernel → List Link → ℕ → ℕ → Type 0
HasData K links v p = (a : Dependence) → data_edge K v p ≡ Some a → Has links (Pull v p) × Has links (Stay v p)

abbrev pub HasOrder : Kernel → List Link → ℕ → Type 0
HasOrder K links e = (a : Dependence) → order_edge K e ≡ Some a → Has links (Tie e)

-- links were added that are those of their parts
pub record IsGrown (A : Arch) (K : Kernel) (hops : ℕ → ℕ → ℕ) (ii : ℕ) (links links' : List Link) : Type 0 where
  pub right : AllStand A K hops ii links'
  pub kept : (part : Part) → Has links part → Has links' part

-- the network of a kernel
pub record IsNetwork (A : Arch) (K : Kernel) (hops : ℕ → ℕ → ℕ) (ii : ℕ) (links : List Link) : Type 0 where
  pub few : length links ≤ 8 * size K + length K.order
  pub right : AllStand A K hops ii links
  pub nodes : (w : ℕ) → w < size K → HasNode links w
  pub uses : (v p : ℕ) → HasData K links v p
  pub order : (e : ℕ) → HasOrder K links e
