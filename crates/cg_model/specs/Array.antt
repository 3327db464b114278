-- Architectures: resources (wires, registers, the ports and outs of units) with their drivers, and units. There is a
-- link from q to r where q drives r; a link into a register takes one cycle, every other link none.
use Rattle.std.specs.Prelude.{◌≡◌, ◌≢◌, ℕ, suc, ◌+◌, ◌<◌, ◌≤◌, eqb, if◌then◌else◌, List, [], ◌∷◌, ◌++◌, length, Contains, slice_index_or}
use Rattle.cg_word.specs.declared.op.Op.{Op}
use Rattle.cg_word.specs.Word.{arity}
use Rattle.cg_model.specs.Names.{IsName}
use Rattle.cg_model.specs.Limits.{longest_name, most_contexts, most_links, most_memory, most_resources, most_units}
pub use Rattle.cg_model.specs.declared.array.Kind.{Kind}
pub use Rattle.cg_model.specs.declared.array.Kind.TheVariants.{Wire, Register, Port, Out}
pub use Rattle.cg_model.specs.declared.array.Resource.{Resource}
pub use Rattle.cg_model.specs.declared.array.Unit.{Unit}

-- resources and units by number; the hub lists registers, or is empty
pub record Arch : Type 0 where
  pub name : List ℕ
  pub contexts : ℕ
  pub memory : ℕ
  pub resources : List Resource
  pub units : List Unit
  pub hub : List ℕ

-- resource r; past the last one, a wire without drivers
abbrev pub resource : Arch → ℕ → Resource
resource A r = slice_index_or A.resources r (record { name = []; kind = Wire; drivers = [] })

-- unit x; past the last one, a unit without operations
abbrev pub unit : Arch → ℕ → Unit
unit A x = slice_index_or A.units x (record { name = []; ops = []; latency = 1; ports = []; out = 0 })

-- the resource that is port p of unit x
abbrev pub port : Arch → ℕ → ℕ → ℕ
port A x p = slice_index_or (unit A x).ports p 0

-- register number k of the hub
abbrev pub hub_register : Arch → ℕ → ℕ
hub_register A k = slice_index_or A.hub k 0

-- the delay of a link into a resource of that kind
abbrev pub delay_by : Kind → ℕ
delay_by Register = 1
delay_by Wire = 0
delay_by Port = 0
delay_by Out = 0

-- the delay of a link into resource r
abbrev pub delay : Arch → ℕ → ℕ
delay A r = delay_by (resource A r).kind

-- the number of the first unit with that out, counted from x on
abbrev pub owner_from : ℕ → List Unit → ℕ → ℕ
owner_from r [] x = x
owner_from r (u ∷ us) x = if eqb u.out r then x else owner_from r us (suc x)

-- the unit whose out is resource r
unfoldable pub owner : Arch → ℕ → ℕ
owner A r = owner_from r A.units 0

-- the number of links into a list of resources
unfoldable pub links : List Resource → ℕ
links [] = 0
links (r ∷ rs) = length r.drivers + links rs

-- the limits on the counts of a valid architecture (A1) and on its contexts (A8)
pub record IsSmall (A : Arch) : Type 0 where
  pub resources : length A.resources ≤ most_resources
  pub links : links A.resources ≤ most_links
  pub units : length A.units ≤ most_units
  pub memory : A.memory ≤ most_memory
  pub contexts : (0 < A.contexts) × (A.contexts ≤ most_contexts)

-- its names: those of the architecture and of its wires, registers and units have at most 40
-- characters (A2); ports and outs are named after their unit, and no two names are equal (A3)
pub record HasNames (A : Arch) : Type 0 where
  pub own : IsName longest_name A.name
  pub units : (x : ℕ) → x < length A.units → IsName longest_name (unit A x).name
  pub wires : (r : ℕ) → r < length A.resources → (resource A r).kind ≡ Wire →
      IsName longest_name (resource A r).name
  pub registers : (r : ℕ) → r < length A.resources → (resource A r).kind ≡ Register →
      IsName longest_name (resource A r).name
  pub resources_apart : (r s : ℕ) → r < length A.resources → s < length A.resources →
      (resource A r).name ≡ (resource A s).name → r ≡ s
  pub units_apart : (x y : ℕ) → x < length A.units → y < length A.units →
      (unit A x).name ≡ (unit A y).name → x ≡ y
  -- no resource has a unit's name
  pub both_apart : (r x : ℕ) → r < length A.resources → x < length A.units →
      (resource A r).name ≢ (unit A x).name
  -- the unit's name followed by `_o` for its out, by `_a`, `_b`, `_c` for its ports
  pub outs : (x : ℕ) → x < length A.units →
      (resource A (unit A x).out).name ≡ (unit A x).name ++ 95 ∷ 111 ∷ []
  pub ports : (x p : ℕ) → x < length A.units → p < length (unit A x).ports →
      (resource A (port A x p)).name ≡ (unit A x).name ++ 95 ∷ (97 + p) ∷ []

-- a complete hub (A9): its entries are registers, none twice; each of them is driven by each unit's out and by each hub
-- register, itself included, and drives each port. An empty hub is complete.
pub record HasHub (A : Arch) : Type 0 where
  pub registers : (k : ℕ) → k < length A.hub → (resource A (hub_register A k)).kind ≡ Register
  pub once : (j k : ℕ) → j < length A.hub → k < length A.hub →
      hub_register A j ≡ hub_register A k → j ≡ k
  pub from_units : (k x : ℕ) → k < length A.hub → x < length A.units →
      Contains (resource A (hub_register A k)).drivers (unit A x).out
  pub from_hub : (j k : ℕ) → j < length A.hub → k < length A.hub →
      Contains (resource A (hub_register A k)).drivers (hub_register A j)
  pub to_ports : (k x p : ℕ) → k < length A.hub → x < length A.units → p < length (unit A x).ports →
      Contains (resource A (port A x p)).drivers (hub_register A k)

-- a valid architecture: none of the faults A1 to A9 applies
pub record IsArch (A : Arch) : Type 0 where
  pub small : IsSmall A
  pub names : HasNames A
  pub hub : HasHub A
  -- A7: a unit has a latency of 1 to 4 cycles, at least one operation, at most three ports, and enough ports for each
  -- operation
  pub latencies : (x : ℕ) → x < length A.units →
      (0 < (unit A x).latency) × ((unit A x).latency ≤ 4)
  pub some_op : (x : ℕ) → x < length A.units → 0 < length (unit A x).ops
  pub few_ports : (x : ℕ) → x < length A.units → length (unit A x).ports ≤ 3
  pub enough_ports : (x : ℕ) (op : Op) → x < length A.units → Contains (unit A x).ops op →
      arity op ≤ length (unit A x).ports
  -- a unit's ports and out are resources of these kinds; each resource of these kinds belongs to one unit, and to one
  -- port of it
  pub ports_known : (x p : ℕ) → x < length A.units → p < length (unit A x).ports →
      port A x p < length A.resources
  pub ports : (x p : ℕ) → x < length A.units → p < length (unit A x).ports →
      (resource A (port A x p)).kind ≡ Port
  pub own_ports : (x p y q : ℕ) → x < length A.units → y < length A.units →
      p < length (unit A x).ports → q < length (unit A y).ports →
      port A x p ≡ port A y q → (x ≡ y) × (p ≡ q)
  pub port_owned : (r : ℕ) → (resource A r).kind ≡ Port →
      (x : ℕ) × (p : ℕ) × (x < length A.units) × (p < length (unit A x).ports) × (port A x p ≡ r)
  pub outs : (x : ℕ) → x < length A.units → (resource A (unit A x).out).kind ≡ Out
  pub owners : (x : ℕ) → x < length A.units → owner A (unit A x).out ≡ x
  pub owned : (r : ℕ) → (resource A r).kind ≡ Out →
      (owner A r < length A.units) × ((unit A (owner A r)).out ≡ r)
  -- a driver is a resource (A4) and not a port (A5), and is listed once; an out has no drivers
  pub known : (q r : ℕ) → Contains (resource A r).drivers q → q < length A.resources
  pub from_no_port : (q r : ℕ) → Contains (resource A r).drivers q → (resource A q).kind ≢ Port
  pub once : (r j k : ℕ) → j < length (resource A r).drivers → k < length (resource A r).drivers →
      slice_index_or (resource A r).drivers j 0 ≡ slice_index_or (resource A r).drivers k 0 → j ≡ k
  pub undriven : (r : ℕ) → (resource A r).kind ≡ Out → (resource A r).drivers ≡ []
  -- A6: the links of delay 0 are acyclic: there are levels such that each of these links leads to a higher one
  pub level : ℕ → ℕ
  pub levels : (r : ℕ) → r < length A.resources → level r < length A.resources
  pub rising : (q r : ℕ) → Contains (resource A r).drivers q → delay A r ≡ 0 → level q < level r
