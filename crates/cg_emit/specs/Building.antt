-- The construction of a mapping's configuration: node by node, and then position by position.
use Rattle.std.specs.Prelude.{◌≡◌, ℕ, ◌%◌, ◌<◌, ◌≤◌, ◌^◌, List, [], ◌∷◌, length, Option, Some, None, slice_get, slice_index_or}
use Rattle.cg_model.specs.declared.kernel.Node.{Node}
use Rattle.cg_model.specs.declared.kernel.Operand.{Operand}
use Rattle.cg_model.specs.declared.kernel.Operand.TheVariants.{Const as Constant, Edge}
use Rattle.cg_model.specs.declared.mapping.Place.{Place}
use Rattle.cg_model.specs.Limits.{latest_time}
use Rattle.cg_model.specs.declared.mapping.Route.{Route}
use Rattle.cg_model.specs.Kernel.{Kernel, HasOperand, size}
use Rattle.cg_model.specs.Array.{Arch, resource}
use Rattle.cg_model.specs.Mapping.{Mapping, Position, Goes}
use Rattle.cg_model.specs.Config.{Config, fields}
use Rattle.cg_model.specs.Configured.{selected, node_on, fields_by}
use Rattle.cg_config.specs.Changes.{with_select}

-- ---- the limits of a unit's fields

-- an edge has at most four initial words
abbrev pub HasFewWords : Operand → Type 0
HasFewWords (Constant w) = Unit {0}
HasFewWords (Edge u d init) = length init ≤ 4

-- each of the operands has at most four initial words
abbrev pub HaveFewWords : List Operand → Type 0
HaveFewWords os = (p : ℕ) (o : Operand) → slice_get os p ≡ Some o → HasFewWords o

-- a node has at most three operands, of at most four initial words each
pub record HasFewOperands (v : Node) : Type 0 where
  pub operands : length v.operands ≤ 3
  pub words : HaveFewWords v.operands

-- no node begins later than a stage can encode
abbrev pub AreSoon : List Place → Type 0
AreSoon places = (v : ℕ) → v < length places →
    (slice_index_or places v (record { unit = 0; time = 0 })).time ≤ latest_time

-- ---- node by node

-- each unit has in each slot the fields that the first k nodes require
pub record HasNodes (A : Arch) (K : Kernel) (M : Mapping) (C : Config) (k : ℕ) : Type 0 where
  pub interval : C.ii ≡ M.ii
  pub asked : (x slot : ℕ) → x < length A.units → slot < M.ii →
      fields C x slot ≡ fields_by K M (node_on M x slot k)

-- ---- position by position

-- with the select that a position requires, if it has a predecessor
abbrev pub with_position : Arch → Position → Option ℕ → Config → Config
with_position A p None C = C
with_position A p (Some q) C =
    with_select C p.resource (p.time % C.ii) (selected (resource A p.resource).drivers (Some q))

-- with the selects that a list of positions requires
abbrev pub with_positions : Arch → List Position → Config → Config
with_positions A [] C = C
with_positions A (p ∷ ps) C = with_positions A ps (with_position A p p.from C)

-- from q at a time the path continues along links, and ends at a time that fits 32 bits
abbrev pub GoesInTime : Arch → ℕ → ℕ → List ℕ → Type 0
GoesInTime A q t path = (r : ℕ) × (s : ℕ) × (s < 2 ^ 32) × Goes A q t path r s

-- the route is of an edge from node u
abbrev pub IsSource : Kernel → Route → ℕ → Type 0
IsSource K route u =
    (route.node < size K) × (d : ℕ) × (init : List ℕ) × HasOperand K route.node route.arg (Edge u d init)
