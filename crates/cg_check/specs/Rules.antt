-- The rules of legal mappings: the condition of each, and the first place at which a mapping violates it.
use Rattle.std.specs.Prelude.{◌≡◌, ℕ, zero, suc, ◌+◌, ◌*◌, ◌%◌, ◌<◌, ◌≤◌, Bool, true, false, ◌&&◌, not, eqb, nat_lt, nat_le, if◌then◌else◌, List, [], ◌∷◌, length, take, Contains, Option, Some, None, slice_get}
use Rattle.std.specs.List.{list_any}
use Rattle.std.specs.Option.{option_map, option_or}
use Rattle.cg_word.specs.Sets.{among}
use Rattle.cg_model.specs.First.{first_from, first_such}
use Rattle.cg_model.specs.Limits.{latest_time}
use Rattle.cg_model.specs.declared.kernel.OrderEdge.{OrderEdge}
use Rattle.cg_model.specs.declared.kernel.Operand.TheVariants.{Edge}
use Rattle.cg_model.specs.Kernel.{Kernel, HasOperand, HasOrder, size, node}
use Rattle.cg_model.specs.Array.{Arch, resource, unit, delay}
use Rattle.cg_model.specs.declared.mapping.Place.{Place}
use Rattle.cg_model.specs.declared.mapping.Route.{Route}
use Rattle.cg_model.specs.Mapping.{Mapping, Position, Brings, place, leaves, positions, same_from}
use Rattle.cg_check.specs.Edges.{DataEdge, data_edge}
use Rattle.cg_check.specs.declared.rule.RulePlace.TheVariants as at
pub use Rattle.cg_check.specs.declared.rule.Rule.{Rule}
pub use Rattle.cg_check.specs.declared.rule.Rule.TheVariants.{L1, L2, L3, L4, L5, L6, L7}
pub use Rattle.cg_check.specs.declared.rule.RulePlace.{RulePlace}
pub use Rattle.cg_check.specs.declared.rule.Violation.{Violation}

-- ---- the condition of each rule

-- node v is placed on a unit that offers its operation, at a time up to 65,534
pub record StandsWell (A : Arch) (K : Kernel) (M : Mapping) (v : ℕ) : Type 0 where
  pub known : (place M v).unit < length A.units
  pub offered : Contains (unit A (place M v).unit).ops (node K v).op
  pub soon : (place M v).time ≤ latest_time

-- wherever two positions meet on a resource in a slot, they are alike
abbrev pub AreAlike : Arch → Kernel → Mapping → (Position → Position → Type 0) → Type 0
AreAlike A K M IsLike =
    (p q : Position) → Contains (positions A K M) p → Contains (positions A K M) q →
    p.resource ≡ q.resource → p.time % M.ii ≡ q.time % M.ii → IsLike p q

-- the mapping keeps the rule
abbrev pub Keeps : Rule → Arch → Kernel → Mapping → Type 0
Keeps L1 A K M = (0 < M.ii) × (M.ii ≤ A.contexts)
Keeps L2 A K M = (v : ℕ) → v < size K → StandsWell A K M v
Keeps L3 A K M =
    (v w : ℕ) → v < size K → w < size K → (place M v).unit ≡ (place M w).unit →
    (place M v).time % M.ii ≡ (place M w).time % M.ii → v ≡ w
Keeps L4 A K M =
    (e u v d : ℕ) → HasOrder K e u v d → (place M u).time + 1 ≤ (place M v).time + M.ii * d
Keeps L5 A K M =
    (route : Route) (u d : ℕ) (init : List ℕ) →
    Contains M.routes route → HasOperand K route.node route.arg (Edge u d init) →
    (port : ℕ) × (slice_get (unit A (place M route.node).unit).ports route.arg ≡ Some port) ×
    Brings A M u route.path port ((place M route.node).time + M.ii * d)
Keeps L6 A K M = AreAlike A K M (λ p q. (p.source ≡ q.source) × (p.time ≡ q.time))
Keeps L7 A K M = AreAlike A K M (λ p q. p.from ≡ q.from)

-- ---- tests

-- L1
abbrev pub is_interval : Arch → Mapping → Bool
is_interval A M = nat_lt 0 M.ii && nat_le M.ii A.contexts

-- L2, of node v at its place
abbrev pub stands_well : Arch → Kernel → ℕ → Place → Bool
stands_well A K v p = nat_lt p.unit (length A.units) && (among (unit A p.unit).ops (node K v).op && nat_le p.time latest_time)

-- L3: some node of these places has the unit and the slot of the given place
abbrev pub is_shared : ℕ → List Place → Place → Bool
is_shared ii places p = list_any (λ q. eqb q.unit p.unit && eqb (q.time % ii) (p.time % ii)) places

-- L4, of an order edge
abbrev pub is_after : Mapping → OrderEdge → Bool
is_after M e = nat_le ((place M e.from).time + 1) ((place M e.to).time + M.ii * e.distance)

-- there is a link from q to r
abbrev pub drives : Arch → ℕ → ℕ → Bool
drives A q r = list_any (λ d. eqb d q) (resource A r).drivers

-- from q at time t the path continues along links, and ends on r at time s
abbrev pub goes : Arch → ℕ → ℕ → List ℕ → ℕ → ℕ → Bool
goes A q t [] r s = eqb q r && eqb t s
goes A q t (x ∷ path) r s = drives A q x && goes A x (t + delay A x) path r s

-- the path begins with the out of u's unit when u's value leaves it, and goes to the port, if there is one
abbrev pub arrives : Arch → Mapping → ℕ → List ℕ → Option ℕ → ℕ → Bool
arrives A M u path None s = false
arrives A M u [] (Some port) s = false
arrives A M u (x ∷ path) (Some port) s = eqb x (unit A (place M u).unit).out && goes A x (leaves A M u) path port s

-- a route's path brings the value of the given edge, if there is one, to the port of its operand in time
abbrev pub brings : Arch → Mapping → Route → Option DataEdge → Bool
brings A M route None = true
brings A M route (Some e) =
    arrives A M e.source route.path (slice_get (unit A (place M route.node).unit).ports route.arg)
    ((place M route.node).time + M.ii * e.distance)

-- L5, of a route
abbrev pub is_brought : Arch → Kernel → Mapping → Route → Bool
is_brought A K M route = brings A M route (data_edge (slice_get (node K route.node).operands route.arg))

-- L6, of two positions
abbrev pub same_value : Position → Position → Bool
same_value p q = eqb p.source q.source && eqb p.time q.time

-- L7, of two positions: they come from one resource, or both begin their paths
abbrev pub same_way : Position → Position → Bool
same_way p q = same_from p.from q.from

-- the position is on resource r in slot s
abbrev pub is_on : ℕ → ℕ → ℕ → Position → Bool
is_on ii r s p = eqb p.resource r && eqb (p.time % ii) s

-- two of the positions that are on resource r in slot s aren't alike
unfoldable pub clashes : (Position → Position → Bool) → ℕ → List Position → ℕ → ℕ → Bool
clashes alike ii ps r s = list_any (λ p. is_on ii r s p && list_any (λ q. is_on ii r s q && not (alike p q)) ps) ps

-- ---- first places

-- the first value of f among the numbers below n
unfoldable pub first_below : {X : Type 0} → (ℕ → Option X) → ℕ → Option X
first_below f zero = None
first_below f (suc n) = option_or (first_below f n) (f n)

-- the least resource, and on it the least slot, with two positions that aren't alike
abbrev pub first_clash : (Position → Position → Bool) → Arch → Kernel → Mapping → Option RulePlace
first_clash alike A K M =
    first_below (λ r. first_below (λ s. if clashes alike M.ii (positions A K M) r s then Some (at.Resource r s) else None) M.ii)
    (length A.resources)

-- the operand at which a route ends
abbrev pub end_place : Route → RulePlace
end_place route = at.Arg route.node route.arg

-- the first place at which the rule is violated, if it is
unfoldable pub violated : Rule → Arch → Kernel → Mapping → Option RulePlace
violated L1 A K M = if is_interval A M then None else Some at.Mapping
violated L2 A K M = option_map at.Node (first_from (λ v p. not (stands_well A K v p)) 0 M.places)
violated L3 A K M = option_map at.Node (first_from (λ v p. is_shared M.ii (take v M.places) p) 0 M.places)
violated L4 A K M = option_map at.Order (first_from (λ e edge. not (is_after M edge)) 0 K.order)
violated L5 A K M = option_map end_place (first_such (λ route. not (is_brought A K M route)) M.routes)
violated L6 A K M = first_clash same_value A K M
violated L7 A K M = first_clash same_way A K M

-- ---- the lowest rule

-- the first of these rules that is violated, at its first place
unfoldable pub first_violation : List Rule → Arch → Kernel → Mapping → Option Violation
first_violation [] A K M = None
first_violation (rule ∷ rules) A K M =
    option_or (option_map (λ p. record { rule = rule; place = p }) (violated rule A K M)) (first_violation rules A K M)

abbrev pub all_rules : List Rule
all_rules = L1 ∷ L2 ∷ L3 ∷ L4 ∷ L5 ∷ L6 ∷ L7 ∷ []

-- the lowest rule that is violated, at its first place
abbrev pub violation : Arch → Kernel → Mapping → Option Violation
violation A K M = first_violation all_rules A K M
