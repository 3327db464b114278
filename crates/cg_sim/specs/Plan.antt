-- An architecture in flat lists.
use Rattle.std.specs.Prelude.{◌≡◌, ℕ, suc, ◌+◌, ◌<◌, Bool, true, false, List, [], ◌∷◌, length, map, Contains, slice_index, slice_index_or}
use Rattle.cg_model.specs.declared.array.Kind.{Kind}
use Rattle.cg_model.specs.declared.array.Kind.TheVariants.{Wire, Register, Port}
use Rattle.cg_model.specs.declared.array.Unit.{Unit}
use Rattle.cg_model.specs.Array.{Arch, resource}
use Rattle.cg_sim.specs.declared.plan.Link.{Link}
use Rattle.cg_datapath.specs.declared.terminals.Terminals.{Terminals}
use Rattle.cg_sim.specs.declared.plan.Plan.{Plan}

abbrev pub is_register : Kind → Bool
is_register Register = true
is_register _ = false

-- a wire or port
abbrev pub is_net : Kind → Bool
is_net Wire = true
is_net Port = true
is_net _ = false

-- entry j
abbrev pub link : List Link → ℕ → Link
link ls j = slice_index_or ls j (record { resource = 0; first = 0 })

-- the drivers of the entry's resource are in the list, after the number past the last resource
pub record IsLinked (A : Arch) (drivers : List ℕ) (l : Link) : Type 0 where
  pub known : l.resource < length A.resources
  pub within : l.first + length (resource A l.resource).drivers < length drivers
  pub none : slice_index drivers l.first ≡ length A.resources
  pub each : (k : ℕ) → k < length (resource A l.resource).drivers →
      slice_index drivers (l.first + suc k) ≡ slice_index (resource A l.resource).drivers k

-- the entries are the resources of these kinds among the first n of an order
pub record AreListed (A : Arch) (kinds : Kind → Bool) (order : List ℕ) (n : ℕ) (ls : List Link) (drivers : List ℕ) : Type 0 where
  pub linked : (j : ℕ) → j < length ls → IsLinked A drivers (link ls j)
  pub chosen : (j : ℕ) → j < length ls → kinds (resource A (link ls j).resource).kind ≡ true
  pub all : (k : ℕ) → k < n → kinds (resource A (slice_index order k)).kind ≡ true →
      (j : ℕ) × (j < length ls) × ((link ls j).resource ≡ slice_index order k)

-- a wire or port that drives an entry's resource is an entry before it
abbrev pub AreRising : Arch → List Link → Type 0
AreRising A ls = (j q : ℕ) → j < length ls → Contains (resource A (link ls j).resource).drivers q →
    is_net (resource A q).kind ≡ true → (i : ℕ) × (i < j) × ((link ls i).resource ≡ q)

-- the terminals of a unit
abbrev pub terminals_of : ℕ → Unit → Terminals
terminals_of none u =
    record {
      ports = slice_index_or u.ports 0 none ∷ slice_index_or u.ports 1 none ∷ slice_index_or u.ports 2 none ∷ [];
      out = u.out;
      latency = u.latency;
    }

abbrev pub AreTerminals : List Unit → ℕ → List Terminals → Type 0
AreTerminals us none ts = ts ≡ map (terminals_of none) us

-- the entries are the resources of these kinds
pub record AreLinks (A : Arch) (kinds : Kind → Bool) (ls : List Link) (drivers : List ℕ) : Type 0 where
  pub linked : (j : ℕ) → j < length ls → IsLinked A drivers (link ls j)
  pub chosen : (j : ℕ) → j < length ls → kinds (resource A (link ls j).resource).kind ≡ true
  pub all : (r : ℕ) → r < length A.resources → kinds (resource A r).kind ≡ true →
      (j : ℕ) × (j < length ls) × ((link ls j).resource ≡ r)

-- the flat lists of an architecture
pub record IsPlan (A : Arch) (p : Plan) : Type 0 where
  pub registers : AreLinks A is_register p.registers.entries.items p.registers.drivers.items
  pub nets : AreLinks A is_net p.nets.entries.items p.nets.drivers.items
  pub rising : AreRising A p.nets.entries.items
