-- Each violation in the list is one, and each that there is stands in it.
use Rattle.std.proofs.Common.{◌≡◌, ℕ, ◌<◌, ◌≤◌, Bool, true, false, List, length, take, Option, Some, None, Contains, refl, sym, ap, ◌∙◌, subst, arith, ⊎_elim, eqb-true, eq-eqb}
use Rattle.std.specs.Prelude.{◌&&◌, not, eqb, nat_lt, nat_le, slice_get}
use Rattle.std.specs.List.{list_any}
use Rattle.std.proofs.lemmas.Bool.{and_parts, and_from, not-true, not-false, not_from_false, ltb-true, leb-true, lt-ltb, le-leb, cases_Bool, both_ways}
use Rattle.std.proofs.lemmas.Option.{slice_get-get_or, get_or_from_slice_get}
use Rattle.cg_overlap.proofs.Facts.{Contains-flat_map, Contains-flat_map_from}
use Rattle.cg_list_laws.specs.Below.{lists_below}
use Rattle.cg_model.specs.declared.kernel.Operand.{Operand}
use Rattle.cg_model.specs.declared.kernel.Operand.TheVariants.{Const as Constant, Edge}
use Rattle.cg_model.specs.declared.kernel.OrderEdge.{OrderEdge}
use Rattle.cg_model.specs.declared.mapping.Route.{Route}
use Rattle.cg_model.specs.Kernel.{Kernel, size, node}
use Rattle.cg_model.specs.Array.{Arch}
use Rattle.cg_model.specs.Mapping.{Mapping, Position, place, positions}
use Rattle.cg_check.specs.declared.rule.Rule.{Rule}
use Rattle.cg_check.specs.declared.rule.Rule.TheVariants.{L1, L2, L3, L4, L5, L6, L7}
use Rattle.cg_check.specs.declared.rule.RulePlace.{RulePlace}
use Rattle.cg_check.specs.declared.rule.RulePlace.TheVariants as at
use Rattle.cg_check.specs.declared.rule.Violation.{Violation}
use Rattle.cg_check.specs.Edges.{data_edge}
use Rattle.cg_check.specs.Rules.{is_interval, stands_well, is_shared, is_after, is_brought, brings, end_place, same_value, same_way, clashes, all_rules}
use Rattle.cg_check.specs.Places.{IsPlaceOf, AreAlikeOn, KeepsAt}
use Rattle.cg_check.proofs.Lists.{any_in, any_not}
use Rattle.cg_check.proofs.Links.{brings_of}
use Rattle.cg_check.proofs.Kept.{stands, well, shares, shared_with, brought}
use Rattle.cg_check.proofs.Meeting.{values_same, same_values, ways_same, same_ways, alike_on, unlike_on}
use Rattle.cg_violations.specs.Violations.{violation_if, unit_violation, slot_violation, slot_violations, order_edge, order_violation, route_violation, clash_violations, violations_by, violations_of, IsJudged}
use Rattle.cg_violations.proofs.Members.{from_below, below_from, from_if, if_from, from_cond, cond_from}

-- the mapping breaks the rule at the place
abbrev pub IsBreach : Arch → Kernel → Mapping → Violation → Type 0
IsBreach A K M v = IsPlaceOf v.rule A K M v.place × (KeepsAt v.rule A K M v.place → ⊥)

-- ---- the interval

pub interval : (A : Arch) (M : Mapping) → is_interval A M ≡ true → (0 < M.ii) × (M.ii ≤ A.contexts)
interval A M h = let (a, b) = and_parts (nat_lt 0 M.ii) (nat_le M.ii A.contexts) h in (ltb-true 0 M.ii a, leb-true M.ii A.contexts b)

pub interval_from : (A : Arch) (M : Mapping) → (0 < M.ii) × (M.ii ≤ A.contexts) → is_interval A M ≡ true
interval_from A M k = and_from (nat_lt 0 M.ii) (nat_le M.ii A.contexts) (lt-ltb 0 M.ii k.0) (le-leb M.ii A.contexts k.1)

module _ (A : Arch) (K : Kernel) (M : Mapping) where
  each_interval : (v : Violation) → Contains (violations_by L1 A K M) v → IsBreach A K M v
  each_interval v m =
      let (b, e) = from_if (not (is_interval A M)) L1 at.Mapping v m in
      subst (IsBreach A K M) (sym e) (tt, λ k. both_ways (is_interval A M) (not-true _ b) (interval_from A M k))

  all_interval : (KeepsAt L1 A K M at.Mapping → ⊥) → Contains (violations_by L1 A K M) (record { rule = L1; place = at.Mapping })
  all_interval broken =
      if_from (not (is_interval A M)) L1 at.Mapping (⊎_elim (λ h. absurd (broken (interval A M h))) (λ h. not_from_false _ h) (cases_Bool (is_interval A M)))

  -- ---- places

  each_unit : (v : Violation) → Contains (violations_by L2 A K M) v → IsBreach A K M v
  each_unit v m =
      let (n, l, here) = from_below (unit_violation A K M) (size K) v m in
      let (b, e) = from_if (not (stands_well A K n (place M n))) L2 (at.Node n) v here in
      subst (IsBreach A K M) (sym e) (l, λ k. both_ways (stands_well A K n (place M n)) (not-true _ b) (well A K M n k))

  all_unit : (n : ℕ) → n < size K → (KeepsAt L2 A K M (at.Node n) → ⊥) → Contains (violations_by L2 A K M) (record { rule = L2; place = at.Node n })
  all_unit n l broken =
      below_from (unit_violation A K M) (size K) n _ l (if_from (not (stands_well A K n (place M n))) L2 (at.Node n)
      (⊎_elim (λ h. absurd (broken (stands A K M n h))) (λ h. not_from_false _ h) (cases_Bool (stands_well A K n (place M n)))))

  each_slot : (v : Violation) → Contains (violations_by L3 A K M) v → IsBreach A K M v
  each_slot v m =
      let (n, l, here) = from_below (slot_violation M) (size K) v (from_cond (is_interval A M) (slot_violations K M) v m).1 in
      let (b, e) = from_if (is_shared M.ii (take n M.places) (place M n)) L3 (at.Node n) v here in
      let (w, before, unit, slot) = shared_with M n b in
      subst (IsBreach A K M) (sym e) (l, λ k. k w before unit slot)

  all_slot : length M.places ≡ size K → (0 < M.ii) × (M.ii ≤ A.contexts) → (n : ℕ) → n < size K → (KeepsAt L3 A K M (at.Node n) → ⊥) → Contains (violations_by L3 A K M) (record { rule = L3; place = at.Node n })
  all_slot long kept n l broken =
      let within : n < length M.places = omega (arith, long, l) in
      cond_from (is_interval A M) (slot_violations K M) _ (interval_from A M kept) (below_from (slot_violation M) (size K) n _ l (if_from (is_shared M.ii (take n M.places) (place M n)) L3 (at.Node n)
      (⊎_elim (λ h. h) (λ h. absurd (broken (λ w before unit slot. both_ways _ h (shares M w n before within unit slot)))) (cases_Bool (is_shared M.ii (take n M.places) (place M n))))))

  -- ---- order edges

  edge_there : (e : ℕ) → e < length K.order → slice_get K.order e ≡ Some (order_edge K e)
  edge_there e l = slice_get-get_or K.order e (record { from = 0; to = 0; distance = 0 }) l

  each_order : (v : Violation) → Contains (violations_by L4 A K M) v → IsBreach A K M v
  each_order v m =
      let (n, l, here) = from_below (order_violation K M) (length K.order) v m in
      let edge = order_edge K n in
      let (b, e) = from_if (not (is_after M edge)) L4 (at.Order n) v here in
      subst (IsBreach A K M) (sym e) (l, λ k. both_ways (is_after M edge) (not-true _ b) (le-leb _ _ (k edge.from edge.to edge.distance (edge_there n l))))

  kept_edge : (n : ℕ) → is_after M (order_edge K n) ≡ true → KeepsAt L4 A K M (at.Order n)
  kept_edge n h u v d has =
      let is : order_edge K n ≡ record { from = u; to = v; distance = d } = get_or_from_slice_get K.order n _ (record { from = 0; to = 0; distance = 0 }) has in
      leb-true _ _ (subst (λ (z : OrderEdge). is_after M z ≡ true) is h)

  all_order : (n : ℕ) → n < length K.order → (KeepsAt L4 A K M (at.Order n) → ⊥) → Contains (violations_by L4 A K M) (record { rule = L4; place = at.Order n })
  all_order n l broken =
      below_from (order_violation K M) (length K.order) n _ l (if_from (not (is_after M (order_edge K n))) L4 (at.Order n)
      (⊎_elim (λ h. absurd (broken (kept_edge n h))) (λ h. not_from_false _ h) (cases_Bool (is_after M (order_edge K n)))))

  -- ---- routes

  -- where a path doesn't bring what it has to, there is an edge
  operand_there : (route : Route) (o : Option Operand) → brings A M route (data_edge o) ≡ false → (u : ℕ) × (d : ℕ) × (init : List ℕ) × (o ≡ Some (Edge u d init))
  operand_there route None e = let bad : true ≡ false = e in absurd (cc)
  operand_there route (Some (Constant w)) e = let bad : true ≡ false = e in absurd (cc)
  operand_there route (Some (Edge u d init)) e = (u, d, init, refl)

  each_route : (v : Violation) → Contains (violations_by L5 A K M) v → IsBreach A K M v
  each_route v m =
      let (route, there, here) = Contains-flat_map_from (route_violation A K M) M.routes v m in
      let (b, e) = from_if (not (is_brought A K M route)) L5 (end_place route) v here in
      let fails : is_brought A K M route ≡ false = not-true _ b in
      subst (IsBreach A K M) (sym e) (
        operand_there route (slice_get (node K route.node).operands route.arg) fails,
        λ k. both_ways (is_brought A K M route) fails (brings_of A M route _ (λ u d init has. k route.path u d init there has)),
      )

  -- a route that ends at that operand and isn't brought
  abbrev is_bad : ℕ → ℕ → Route → Bool
  is_bad v a route = (eqb route.node v && eqb route.arg a) && not (is_brought A K M route)

  found_route : (v a : ℕ) → (route : Route) → Contains M.routes route → is_bad v a route ≡ true → Contains (violations_by L5 A K M) (record { rule = L5; place = at.Arg v a })
  found_route v a route there h =
      let (ends, b) = and_parts (eqb route.node v && eqb route.arg a) (not (is_brought A K M route)) h in
      let (e, f) = and_parts (eqb route.node v) (eqb route.arg a) ends in
      let same : end_place route ≡ at.Arg v a = ap (λ z. at.Arg z route.arg) (eqb-true _ _ e) ∙ ap (at.Arg v) (eqb-true _ _ f) in
      Contains-flat_map (route_violation A K M) M.routes route _ there
      (subst (λ (z : RulePlace). Contains (route_violation A K M route) (record { rule = L5; place = z })) same (if_from (not (is_brought A K M route)) L5 (end_place route) b))

  all_route : (v a : ℕ) → (KeepsAt L5 A K M (at.Arg v a) → ⊥) → Contains (violations_by L5 A K M) (record { rule = L5; place = at.Arg v a })
  all_route v a broken =
      ⊎_elim (λ h. let (route, there, bad) = any_in (is_bad v a) M.routes h in found_route v a route there bad)
      (λ h. absurd (broken (λ path u d init there has.
      let route : Route = record { node = v; arg = a; path = path } in
      let off : is_bad v a route ≡ false = any_not (is_bad v a) M.routes route there h in
      brought A K M route u d init (not-false _ (later (eqb v v && eqb a a) (not (is_brought A K M route)) off (and_from _ _ (eq-eqb v v refl) (eq-eqb a a refl)))) has)))
      (cases_Bool (list_any (is_bad v a) M.routes))
    where
      later : (a b : Bool) → (a && b) ≡ false → a ≡ true → b ≡ false
      later true b h e = h
      later false b h e = let bad : false ≡ true = e in absurd (cc)

  -- ---- clashes

  module _ (alike : Position → Position → Bool) (IsLike : Position → Position → Type 0) (is : (p q : Position) → alike p q ≡ true → IsLike p q) (of : (p q : Position) → IsLike p q → alike p q ≡ true) (rule : Rule) where
    each_clash : (v : Violation) → Contains (clash_violations alike rule A K M) v →
        (r : ℕ) × (s : ℕ) × (v ≡ record { rule = rule; place = at.Resource r s }) × (r < length A.resources) × (s < M.ii) × (AreAlikeOn A K M r s IsLike → ⊥)
    each_clash v m =
        let (r, lr, row) = from_below (λ r. lists_below (λ s. violation_if (clashes alike M.ii (positions A K M) r s) rule (at.Resource r s)) M.ii) (length A.resources) v m in
        let (s, ls, here) = from_below (λ s. violation_if (clashes alike M.ii (positions A K M) r s) rule (at.Resource r s)) M.ii v row in
        let (b, e) = from_if (clashes alike M.ii (positions A K M) r s) rule (at.Resource r s) v here in
        let (x, y, mx, my, f, g, h, i, differ) = unlike_on alike M.ii (positions A K M) r s b in
        (r, s, e, lr, ls, λ k. both_ways (alike x y) differ (of x y (k x y mx my f g h i)))

    all_clash : (r s : ℕ) → r < length A.resources → s < M.ii → (AreAlikeOn A K M r s IsLike → ⊥) → Contains (clash_violations alike rule A K M) (record { rule = rule; place = at.Resource r s })
    all_clash r s lr ls broken =
        below_from (λ r. lists_below (λ s. violation_if (clashes alike M.ii (positions A K M) r s) rule (at.Resource r s)) M.ii) (length A.resources) r _ lr
        (below_from (λ s. violation_if (clashes alike M.ii (positions A K M) r s) rule (at.Resource r s)) M.ii s _ ls
        (if_from (clashes alike M.ii (positions A K M) r s) rule (at.Resource r s)
        (⊎_elim (λ h. h) (λ h. absurd (broken (λ x y mx my a b c d. is x y (alike_on alike M.ii (positions A K M) r s h x y mx my a b c d)))) (cases_Bool (clashes alike M.ii (positions A K M) r s)))))

  abbrev IsOneValue : Position → Position → Type 0
  IsOneValue p q = (p.source ≡ q.source) × (p.time ≡ q.time)

  abbrev IsOneWay : Position → Position → Type 0
  IsOneWay p q = p.from ≡ q.from

  each_value : (v : Violation) → Contains (violations_by L6 A K M) v → IsBreach A K M v
  each_value v m =
      let (r, s, e, lr, ls, broken) = each_clash same_value IsOneValue values_same same_values L6 v (from_cond (is_interval A M) (clash_violations same_value L6 A K M) v m).1 in
      subst (IsBreach A K M) (sym e) ((lr, ls), broken)

  each_way : (v : Violation) → Contains (violations_by L7 A K M) v → IsBreach A K M v
  each_way v m =
      let (r, s, e, lr, ls, broken) = each_clash same_way IsOneWay ways_same same_ways L7 v (from_cond (is_interval A M) (clash_violations same_way L7 A K M) v m).1 in
      subst (IsBreach A K M) (sym e) ((lr, ls), broken)

  -- ---- all rules

  each_by : (rule : Rule) (v : Violation) → Contains (violations_by rule A K M) v → IsBreach A K M v
  each_by L1 v m = each_interval v m
  each_by L2 v m = each_unit v m
  each_by L3 v m = each_slot v m
  each_by L4 v m = each_order v m
  each_by L5 v m = each_route v m
  each_by L6 v m = each_value v m
  each_by L7 v m = each_way v m

  pub each_is : (v : Violation) → Contains (violations_of A K M) v → IsBreach A K M v
  unfolding violations_of
  each_is v m = let (rule, a, b) = Contains-flat_map_from (λ rule. violations_by rule A K M) all_rules v m in each_by rule v b

  among_rules : (rule : Rule) → Contains all_rules rule
  among_rules L1 = (0, omega arith, refl)
  among_rules L2 = (1, omega arith, refl)
  among_rules L3 = (2, omega arith, refl)
  among_rules L4 = (3, omega arith, refl)
  among_rules L5 = (4, omega arith, refl)
  among_rules L6 = (5, omega arith, refl)
  among_rules L7 = (6, omega arith, refl)

  all_by : length M.places ≡ size K → (rule : Rule) (p : RulePlace) → IsJudged rule A K M → IsPlaceOf rule A K M p → (KeepsAt rule A K M p → ⊥) →
      Contains (violations_by rule A K M) (record { rule = rule; place = p })
  all_by long L1 at.Mapping kept inside broken = all_interval broken
  all_by long L2 (at.Node v) kept inside broken = all_unit v inside broken
  all_by long L3 (at.Node v) kept inside broken = all_slot long kept v inside broken
  all_by long L4 (at.Order e) kept inside broken = all_order e inside broken
  all_by long L5 (at.Arg v a) kept inside broken = all_route v a broken
  all_by long L6 (at.Resource r s) kept inside broken =
      cond_from (is_interval A M) (clash_violations same_value L6 A K M) _ (interval_from A M kept) (all_clash same_value IsOneValue values_same same_values L6 r s inside.0 inside.1 broken)
  all_by long L7 (at.Resource r s) kept inside broken =
      cond_from (is_interval A M) (clash_violations same_way L7 A K M) _ (interval_from A M kept) (all_clash same_way IsOneWay ways_same same_ways L7 r s inside.0 inside.1 broken)
  all_by long _ _ kept inside broken = absurd inside

  pub all_there : length M.places ≡ size K → (rule : Rule) (p : RulePlace) → IsJudged rule A K M → IsPlaceOf rule A K M p → (KeepsAt rule A K M p → ⊥) →
      Contains (violations_of A K M) (record { rule = rule; place = p })
  unfolding violations_of
  all_there long rule p kept inside broken = Contains-flat_map (λ rule. violations_by rule A K M) all_rules rule _ (among_rules rule) (all_by long rule p kept inside broken)
