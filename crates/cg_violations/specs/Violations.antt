-- All places at which a mapping violates a rule: rule by rule, and within a rule by place.
use Rattle.std.specs.Prelude.{◌≡◌, ◌↔◌, ℕ, Bool, not, if◌then◌else◌, List, [], ◌∷◌, length, take, flat_map, Contains, slice_get, slice_index_or}
use Rattle.cg_list_laws.specs.Below.{lists_below}
use Rattle.cg_model.specs.declared.kernel.OrderEdge.{OrderEdge}
use Rattle.cg_model.specs.Kernel.{Kernel, size}
use Rattle.cg_model.specs.Array.{Arch}
use Rattle.cg_model.specs.declared.mapping.Route.{Route}
use Rattle.cg_model.specs.Mapping.{Mapping, Position, IsLegal, place, positions}
use Rattle.cg_check.specs.declared.rule.Rule.{Rule}
use Rattle.cg_check.specs.declared.rule.Rule.TheVariants.{L1, L2, L3, L4, L5, L6, L7}
use Rattle.cg_check.specs.declared.rule.RulePlace.{RulePlace}
use Rattle.cg_check.specs.declared.rule.RulePlace.TheVariants as at
use Rattle.cg_check.specs.declared.rule.Violation.{Violation}
use Rattle.cg_check.specs.Rules.{Keeps, is_interval, stands_well, is_shared, is_after, is_brought, end_place, same_value, same_way, clashes, all_rules, violation}
use Rattle.cg_check.specs.Places.{IsPlaceOf, KeepsAt}

-- ---- the violations of each rule

-- a rule at a place, if a test says that it is violated there
abbrev pub violation_if : Bool → Rule → RulePlace → List Violation
violation_if broken rule place = if broken then record { rule = rule; place = place } ∷ [] else []

-- L1
abbrev pub interval_violations : Arch → Mapping → List Violation
interval_violations A M = violation_if (not (is_interval A M)) L1 at.Mapping

-- L2, of node v and of all nodes
abbrev pub unit_violation : Arch → Kernel → Mapping → ℕ → List Violation
unit_violation A K M v = violation_if (not (stands_well A K v (place M v))) L2 (at.Node v)

abbrev pub unit_violations : Arch → Kernel → Mapping → List Violation
unit_violations A K M = lists_below (unit_violation A K M) (size K)

-- L3, of node v, against the nodes before it, and of all nodes
abbrev pub slot_violation : Mapping → ℕ → List Violation
slot_violation M v = violation_if (is_shared M.ii (take v M.places) (place M v)) L3 (at.Node v)

abbrev pub slot_violations : Kernel → Mapping → List Violation
slot_violations K M = lists_below (slot_violation M) (size K)

-- order edge e
abbrev pub order_edge : Kernel → ℕ → OrderEdge
order_edge K e = slice_index_or K.order e (record { from = 0; to = 0; distance = 0 })

-- L4, of order edge e and of all order edges
abbrev pub order_violation : Kernel → Mapping → ℕ → List Violation
order_violation K M e = violation_if (not (is_after M (order_edge K e))) L4 (at.Order e)

abbrev pub order_violations : Kernel → Mapping → List Violation
order_violations K M = lists_below (order_violation K M) (length K.order)

-- L5, of a route and of all routes
abbrev pub route_violation : Arch → Kernel → Mapping → Route → List Violation
route_violation A K M route = violation_if (not (is_brought A K M route)) L5 (end_place route)

abbrev pub route_violations : Arch → Kernel → Mapping → List Violation
route_violations A K M = flat_map (route_violation A K M) M.routes

-- L6 or L7, of all resources in all slots: the places where two positions aren't alike
abbrev pub clash_violations : (Position → Position → Bool) → Rule → Arch → Kernel → Mapping → List Violation
clash_violations alike rule A K M =
    lists_below (λ r. lists_below (λ s. violation_if (clashes alike M.ii (positions A K M) r s) rule (at.Resource r s)) M.ii)
    (length A.resources)

-- ---- all violations

-- the violations of a rule; the rules of slots are checked if the interval is one of the architecture
abbrev pub violations_by : Rule → Arch → Kernel → Mapping → List Violation
violations_by L1 A K M = interval_violations A M
violations_by L2 A K M = unit_violations A K M
violations_by L3 A K M = if is_interval A M then slot_violations K M else []
violations_by L4 A K M = order_violations K M
violations_by L5 A K M = route_violations A K M
violations_by L6 A K M = if is_interval A M then clash_violations same_value L6 A K M else []
violations_by L7 A K M = if is_interval A M then clash_violations same_way L7 A K M else []

-- the violations of all rules
unfoldable pub violations_of : Arch → Kernel → Mapping → List Violation
violations_of A K M = flat_map (λ rule. violations_by rule A K M) all_rules

-- ---- correctness of the list

-- the rules of slots are checked if the mapping keeps L1, all others always
abbrev pub IsJudged : Rule → Arch → Kernel → Mapping → Type 0
IsJudged L3 A K M = Keeps L1 A K M
IsJudged L6 A K M = Keeps L1 A K M
IsJudged L7 A K M = Keeps L1 A K M
IsJudged _ A K M = Unit {0}

-- these are the violations of the mapping, and no others
pub record AreAll (A : Arch) (K : Kernel) (M : Mapping) (vs : List Violation) : Type 0 where
  -- at each of these places the mapping breaks the rule
  pub each : (v : Violation) → Contains vs v → IsPlaceOf v.rule A K M v.place × (KeepsAt v.rule A K M v.place → ⊥)
  -- each place at which it breaks a rule is in the list
  pub all : (rule : Rule) (p : RulePlace) → IsJudged rule A K M → IsPlaceOf rule A K M p → (KeepsAt rule A K M p → ⊥) →
      Contains vs (record { rule = rule; place = p })
  -- the first is the lowest rule that it breaks, at the first place
  pub lowest : slice_get vs 0 ≡ violation A K M
  -- the list is empty exactly if the mapping is legal
  pub none : (vs ≡ []) ↔ IsLegal A K M
