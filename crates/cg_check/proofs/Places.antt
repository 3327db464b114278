-- Where a rule is violated first: the mapping breaks it there, and keeps it at each place before.
use Rattle.std.proofs.Common.{◌≡◌, ℕ, zero, suc, ◌+◌, ◌<◌, ◌≤◌, Bool, true, false, cond, take, List, [], ◌∷◌, ◌++◌, length, map, Option, Some, None, Contains, refl, sym, ap, ◌∙◌, subst, arith, inl, inr, ⊎_elim}
use Rattle.std.specs.Prelude.{◌⊎◌, not, slice_get}
use Rattle.std.specs.Option.{option_map, option_or}
use Rattle.std.proofs.lemmas.Bool.{both_ways, not-true, not-false, leb-true, le-leb}
use Rattle.std.proofs.lemmas.List.Elements.{Contains-append_cases}
use Rattle.std.proofs.lemmas.Option.{slice_get_within}
use Rattle.cg_model.specs.First.{first_from, first_such}
use Rattle.cg_model.specs.declared.kernel.Node.{Node}
use Rattle.cg_model.specs.declared.kernel.Operand.{Operand}
use Rattle.cg_model.specs.declared.kernel.Operand.TheVariants.{Const as Constant, Edge}
use Rattle.cg_model.specs.Kernel.{Kernel, size, node}
use Rattle.cg_model.specs.Array.{Arch}
use Rattle.cg_model.specs.declared.mapping.Route.{Route}
use Rattle.cg_model.specs.Mapping.{Mapping, Position, End, end_of, ends_of, ends_from, IsShaped, place, positions}
use Rattle.cg_model.proofs.Lookups.{Contains-nil}
use Rattle.cg_model.proofs.Options.{some_cond}
use Rattle.cg_overlap.proofs.Facts.{Contains-first, Contains-later, Contains-cases}
use Rattle.cg_check.specs.Edges.{data_edge}
use Rattle.cg_check.specs.declared.rule.Rule.{Rule}
use Rattle.cg_check.specs.declared.rule.Rule.TheVariants.{L1, L2, L3, L4, L5, L6, L7}
use Rattle.cg_check.specs.declared.rule.RulePlace.{RulePlace}
use Rattle.cg_check.specs.declared.rule.RulePlace.TheVariants as at
use Rattle.cg_check.specs.Rules.{Keeps, violated, is_interval, stands_well, is_shared, is_after, is_brought, brings, end_place, same_value, same_way, clashes, first_below, first_clash}
use Rattle.cg_check.specs.Places.{IsPlaceOf, IsBefore, AreAlikeOn, KeepsAt, IsFirstBreach}
use Rattle.cg_check.proofs.Lists.{first_below_none}
use Rattle.cg_check.proofs.Links.{brings_of}
use Rattle.cg_check.proofs.Kept.{interval_none, place_at, place_is, stands, well, shares, shared_with, brought}
use Rattle.cg_check.proofs.Meeting.{values_same, same_values, ways_same, same_ways, some_none, alike_on, unlike_on}

-- ---- where the first is found

chosen : {X : Type 0} (b : Bool) (x : X) (o : Option X) (y : X) → cond b (Some x) o ≡ Some y → ((b ≡ true) × (x ≡ y)) ⊎ ((b ≡ false) × (o ≡ Some y))
chosen true x o y e = let same : x ≡ y = cc in inl (refl, same)
chosen false x o y e = inr (refl, e)

or_some : {X : Type 0} (o p : Option X) (x : X) → option_or o p ≡ Some x → (o ≡ Some x) ⊎ ((o ≡ None) × (p ≡ Some x))
or_some (Some y) p x e = inl e
or_some None p x e = inr (refl, e)

map_some : {X Y : Type 0} (f : X → Y) (o : Option X) (y : Y) → option_map f o ≡ Some y → (x : X) × (o ≡ Some x) × (f x ≡ y)
map_some f None y e = let bad : None ≡ Some y = e in absurd (cc)
map_some f (Some x) y e = let same : f x ≡ y = cc in (x, refl, same)

-- the test holds at the first place that was found
found_from : {X : Type 0} (t : ℕ → X → Bool) (i : ℕ) (xs : List X) (k : ℕ) → first_from t i xs ≡ Some k → (n : ℕ) × (x : X) × (k ≡ i + n) × (slice_get xs n ≡ Some x) × (t k x ≡ true)
found_from t i [] k e = let bad : None ≡ Some k = e in absurd (cc)
found_from t i (x ∷ xs) k e =
    ⊎_elim (λ h. let same = h.1 in (0, x, omega (arith, same), refl, subst (λ j. t j x ≡ true) same h.0))
    (λ h. let (n, y, a, b, c) = found_from t (i + 1) xs k h.1 in (suc n, y, omega (arith, a), b, c)) (chosen (t i x) i (first_from t (i + 1) xs) k e)

found_at : {X : Type 0} (t : ℕ → X → Bool) (xs : List X) (k : ℕ) → first_from t 0 xs ≡ Some k → (x : X) × (slice_get xs k ≡ Some x) × (t k x ≡ true)
found_at t xs k e =
    let (n, x, a, b, c) = found_from t 0 xs k e in
    let same : n ≡ k = omega (arith, a) in
    (x, subst (λ j. slice_get xs j ≡ Some x) same b, c)

-- and at none before
none_from : {X : Type 0} (t : ℕ → X → Bool) (i : ℕ) (xs : List X) (k n j : ℕ) (x : X) → first_from t i xs ≡ Some k → slice_get xs n ≡ Some x → j ≡ i + n → j < k → t j x ≡ false
none_from t i [] k n j x e there here l = let bad : None ≡ Some x = there in absurd (cc)
none_from t i (y ∷ ys) k zero j x e there here l =
    let same : y ≡ x = cc in
    let begin : j ≡ i = omega arith in
    ⊎_elim (λ h. let late = h.1 in absurd (omega (arith, late, l, begin))) (λ h. ap (λ z. t z x) begin ∙ ap (t i) (sym same) ∙ h.0) (chosen (t i y) i (first_from t (i + 1) ys) k e)
none_from t i (y ∷ ys) k (suc n) j x e there here l =
    ⊎_elim (λ h. let late = h.1 in absurd (omega (arith, late, l, here))) (λ h. none_from t (i + 1) ys k n j x h.1 there (omega (arith, here)) l) (chosen (t i y) i (first_from t (i + 1) ys) k e)

none_earlier : {X : Type 0} (t : ℕ → X → Bool) (xs : List X) (k j : ℕ) (x : X) → first_from t 0 xs ≡ Some k → j < k → slice_get xs j ≡ Some x → t j x ≡ false
none_earlier t xs k j x e l there = none_from t 0 xs k j j x e there (omega arith) l

found_such : {X : Type 0} (t : X → Bool) (xs : List X) (x : X) → first_such t xs ≡ Some x → Contains xs x × (t x ≡ true)
found_such t [] x e = let bad : None ≡ Some x = e in absurd (cc)
found_such t (y ∷ ys) x e =
    ⊎_elim (λ h. (subst (λ z. Contains (y ∷ ys) z) h.1 (Contains-first y ys), subst (λ z. t z ≡ true) h.1 h.0))
    (λ h. let (m, f) = found_such t ys x h.1 in (Contains-later x y ys m, f)) (chosen (t y) y (first_such t ys) x e)

found_below : {X : Type 0} (f : ℕ → Option X) (n : ℕ) (x : X) → first_below f n ≡ Some x → (k : ℕ) × (k < n) × (f k ≡ Some x) × ((j : ℕ) → j < k → f j ≡ None)
unfolding first_below
found_below f zero x e = let bad : None ≡ Some x = e in absurd (cc)
found_below f (suc n) x e =
    ⊎_elim (λ h. let (k, l, a, b) = found_below f n x h in (k, omega (arith, l), a, b)) (λ h. (n, omega arith, h.1, λ j l. first_below_none f n j h.0 l)) (or_some (first_below f n) (f n) x e)

-- ---- L1

none_before : (p : RulePlace) → IsBefore p at.Mapping → ⊥
none_before at.Mapping l = l
none_before (at.Node v) l = l
none_before (at.Order e) l = l
none_before (at.Arg v a) l = l
none_before (at.Resource r s) l = l

whole : (b : Bool) (p : RulePlace) → cond b None (Some at.Mapping) ≡ Some p → at.Mapping ≡ p
whole true p e = let bad : None ≡ Some p = e in absurd (cc)
whole false p e = cc

interval_breach : (A : Arch) (K : Kernel) (M : Mapping) (p : RulePlace) → violated L1 A K M ≡ Some p → IsFirstBreach L1 A K M p
unfolding violated
interval_breach A K M p e =
    subst (λ z. IsFirstBreach L1 A K M z) (whole (is_interval A M) p e) (record {
      shape = tt;
      broken = λ k. let bad : None ≡ Some p = sym (interval_none A K M k) ∙ e in absurd (cc);
      before = λ q inside l. absurd (none_before q l);
    })

-- ---- L2

units_before : (A : Arch) (K : Kernel) (M : Mapping) (v : ℕ) → length M.places ≡ size K → first_from (λ v p. not (stands_well A K v p)) 0 M.places ≡ Some v →
    (p : RulePlace) → IsPlaceOf L2 A K M p → IsBefore p (at.Node v) → KeepsAt L2 A K M p
units_before A K M v long e (at.Node w) inside l =
    stands A K M w (not-false _ (none_earlier (λ v p. not (stands_well A K v p)) M.places v w (place M w) e l (place_at M w (omega (arith, long, inside)))))
units_before A K M v long e _ inside l = absurd inside

units_breach : (A : Arch) (K : Kernel) (M : Mapping) (p : RulePlace) → length M.places ≡ size K → violated L2 A K M ≡ Some p → IsFirstBreach L2 A K M p
unfolding violated
units_breach A K M p long e =
    let (v, f, same) = map_some at.Node (first_from (λ v p. not (stands_well A K v p)) 0 M.places) p e in
    let (x, there, fails) = found_at (λ v p. not (stands_well A K v p)) M.places v f in
    let within = slice_get_within M.places v x there in
    subst (λ z. IsFirstBreach L2 A K M z) same (record {
      shape = omega (arith, within, long);
      broken = λ k. both_ways (stands_well A K v x) (not-true _ fails) (subst (λ z. stands_well A K v z ≡ true) (place_is M v x there) (well A K M v k));
      before = units_before A K M v long f;
    })

-- ---- L3

apart_before : (A : Arch) (K : Kernel) (M : Mapping) (v : ℕ) → length M.places ≡ size K → first_from (λ v p. is_shared M.ii (take v M.places) p) 0 M.places ≡ Some v →
    (p : RulePlace) → IsPlaceOf L3 A K M p → IsBefore p (at.Node v) → KeepsAt L3 A K M p
apart_before A K M v long e (at.Node x) inside l =
    let within : x < length M.places = omega (arith, long, inside) in
    λ w lw a b. both_ways _ (none_earlier (λ v p. is_shared M.ii (take v M.places) p) M.places v x (place M x) e l (place_at M x within)) (shares M w x lw within a b)
apart_before A K M v long e _ inside l = absurd inside

apart_breach : (A : Arch) (K : Kernel) (M : Mapping) (p : RulePlace) → length M.places ≡ size K → violated L3 A K M ≡ Some p → IsFirstBreach L3 A K M p
unfolding violated
apart_breach A K M p long e =
    let (v, f, same) = map_some at.Node (first_from (λ v p. is_shared M.ii (take v M.places) p) 0 M.places) p e in
    let (x, there, shared) = found_at (λ v p. is_shared M.ii (take v M.places) p) M.places v f in
    let within = slice_get_within M.places v x there in
    let (w, l, a, b) = shared_with M v (subst (λ z. is_shared M.ii (take v M.places) z ≡ true) (sym (place_is M v x there)) shared) in
    subst (λ z. IsFirstBreach L3 A K M z) same (record {
      shape = omega (arith, within, long);
      broken = λ k. k w l a b;
      before = apart_before A K M v long f;
    })

-- ---- L4

order_before : (A : Arch) (K : Kernel) (M : Mapping) (e : ℕ) → first_from (λ e edge. not (is_after M edge)) 0 K.order ≡ Some e →
    (p : RulePlace) → IsPlaceOf L4 A K M p → IsBefore p (at.Order e) → KeepsAt L4 A K M p
order_before A K M e f (at.Order g) inside l =
    λ u v d has. leb-true _ _ (not-false _ (none_earlier (λ e edge. not (is_after M edge)) K.order e g (record { from = u; to = v; distance = d }) f l has))
order_before A K M e f _ inside l = absurd inside

order_breach : (A : Arch) (K : Kernel) (M : Mapping) (p : RulePlace) → violated L4 A K M ≡ Some p → IsFirstBreach L4 A K M p
unfolding violated
order_breach A K M p h =
    let (e, f, same) = map_some at.Order (first_from (λ e edge. not (is_after M edge)) 0 K.order) p h in
    let (edge, there, late) = found_at (λ e edge. not (is_after M edge)) K.order e f in
    subst (λ z. IsFirstBreach L4 A K M z) same (record {
      shape = slice_get_within K.order e edge there;
      broken = λ k. both_ways (is_after M edge) (not-true _ late) (le-leb _ _ (k edge.from edge.to edge.distance there));
      before = order_before A K M e f;
    })

-- ---- L5: routes stand in the order of the operands at which they end

abbrev IsAhead : End → End → Type 0
IsAhead e f = (e.node < f.node) ⊎ ((e.node ≡ f.node) × (e.arg < f.arg))

abbrev AreInOrder : List End → Type 0
AreInOrder [] = Unit {0}
AreInOrder (e ∷ es) = ((f : End) → Contains es f → IsAhead e f) × AreInOrder es

not_both : (e f : End) → IsAhead e f → IsAhead f e → ⊥
not_both e f (inl a) (inl b) = omega (arith, a, b)
not_both e f (inl a) (inr b) = let same = b.0 in omega (arith, a, same)
not_both e f (inr a) (inl b) = let same = a.0 in omega (arith, b, same)
not_both e f (inr a) (inr b) = let l = a.1 in let m = b.1 in omega (arith, l, m)

of_node : (v p : ℕ) (os : List Operand) (f : End) → Contains (ends_of v p os) f → (v ≡ f.node) × (p ≤ f.arg)
of_node v p [] f m = absurd (Contains-nil f m)
of_node v p (Constant w ∷ os) f m = let (a, b) = of_node v (suc p) os f m in (a, omega (arith, b))
of_node v p (Edge u d init ∷ os) f m =
    ⊎_elim (λ e. let same : p ≡ f.arg = ap (λ z. z.arg) e in (ap (λ z. z.node) e, omega (arith, same))) (λ l. let (a, b) = of_node v (suc p) os f l in (a, omega (arith, b)))
    (Contains-cases f (record { node = v; arg = p }) (ends_of v (suc p) os) m)

of_nodes : (v : ℕ) (ns : List Node) (f : End) → Contains (ends_from v ns) f → v ≤ f.node
of_nodes v [] f m = absurd (Contains-nil f m)
of_nodes v (n ∷ ns) f m =
    ⊎_elim (λ l. let same = (of_node v 0 n.operands f l).0 in omega (arith, same)) (λ l. let h = of_nodes (suc v) ns f l in omega (arith, h)) (Contains-append_cases (ends_of v 0 n.operands) (ends_from (suc v) ns) f m)

operands_in_order : (v p : ℕ) (os : List Operand) → AreInOrder (ends_of v p os)
operands_in_order v p [] = tt
operands_in_order v p (Constant w ∷ os) = operands_in_order v (suc p) os
operands_in_order v p (Edge u d init ∷ os) =
    (λ f m. let (a, b) = of_node v (suc p) os f m in let later : p < f.arg = omega (arith, b) in inr (a, later), operands_in_order v (suc p) os)

both_in_order : (es fs : List End) → AreInOrder es → AreInOrder fs → ((e f : End) → Contains es e → Contains fs f → IsAhead e f) → AreInOrder (es ++ fs)
both_in_order [] fs a b h = b
both_in_order (e ∷ es) fs a b h =
    (λ f m. ⊎_elim (λ l. a.0 f l) (λ l. h e f (Contains-first e es) l) (Contains-append_cases es fs f m), both_in_order es fs a.1 b (λ x f mx mf. h x f (Contains-later x e es mx) mf))

nodes_in_order : (v : ℕ) (ns : List Node) → AreInOrder (ends_from v ns)
nodes_in_order v [] = tt
nodes_in_order v (n ∷ ns) =
    both_in_order (ends_of v 0 n.operands) (ends_from (suc v) ns) (operands_in_order v 0 n.operands) (nodes_in_order (suc v) ns)
    (λ e f me mf. let same = (of_node v 0 n.operands e me).0 in let after = of_nodes (suc v) ns f mf in let ahead : e.node < f.node = omega (arith, same, after) in inl ahead)

Contains-map : {X Y : Type 0} (f : X → Y) (xs : List X) (x : X) → Contains xs x → Contains (map f xs) (f x)
Contains-map f [] x m = absurd (Contains-nil x m)
Contains-map f (y ∷ ys) x m =
    ⊎_elim (λ e. subst (λ z. Contains (map f (y ∷ ys)) (f z)) e (Contains-first (f y) (map f ys))) (λ l. Contains-later (f x) (f y) (map f ys) (Contains-map f ys x l)) (Contains-cases x y ys m)

-- a route that ends ahead of the first one that passes a test doesn't pass it
ahead_fails : (t : Route → Bool) (routes : List Route) (route other : Route) → AreInOrder (map end_of routes) → first_such t routes ≡ Some route → Contains routes other →
    IsAhead (end_of other) (end_of route) → t other ≡ false
ahead_fails t [] route other sorted e m l = absurd (Contains-nil other m)
ahead_fails t (r ∷ rs) route other sorted e m l =
    ⊎_elim (λ h.
    let first : IsAhead (end_of other) (end_of r) = subst (λ z. IsAhead (end_of other) (end_of z)) (sym h.1) l in
    absurd (⊎_elim (λ same. let itself : IsAhead (end_of r) (end_of r) = subst (λ z. IsAhead (end_of z) (end_of r)) (sym same) first in not_both (end_of r) (end_of r) itself itself)
    (λ later. not_both (end_of other) (end_of r) first (sorted.0 (end_of other) (Contains-map end_of rs other later))) (Contains-cases other r rs m)))
    (λ h. ⊎_elim (λ same. ap t (sym same) ∙ h.0) (λ later. ahead_fails t rs route other sorted.1 h.1 later l) (Contains-cases other r rs m))
    (chosen (t r) r (first_such t rs) route e)

routes_before : (A : Arch) (K : Kernel) (M : Mapping) (route : Route) → IsShaped K M → first_such (λ route. not (is_brought A K M route)) M.routes ≡ Some route →
    (p : RulePlace) → IsPlaceOf L5 A K M p → IsBefore p (end_place route) → KeepsAt L5 A K M p
routes_before A K M route shaped e (at.Arg v a) inside l =
    let sorted = subst (λ es. AreInOrder es) (sym shaped.routes) (nodes_in_order 0 K.nodes) in
    λ path u d init m has.
    let other : Route = record { node = v; arg = a; path = path } in
    brought A K M other u d init (not-false _ (ahead_fails (λ route. not (is_brought A K M route)) M.routes route other sorted e m l)) has
routes_before A K M route shaped e _ inside l = absurd inside

-- where a path doesn't bring what it has to, there is an edge
edge_there : (A : Arch) (M : Mapping) (route : Route) (o : Option Operand) → brings A M route (data_edge o) ≡ false → (u : ℕ) × (d : ℕ) × (init : List ℕ) × (o ≡ Some (Edge u d init))
edge_there A M route None e = let bad : true ≡ false = e in absurd (cc)
edge_there A M route (Some (Constant w)) e = let bad : true ≡ false = e in absurd (cc)
edge_there A M route (Some (Edge u d init)) e = (u, d, init, refl)

routes_breach : (A : Arch) (K : Kernel) (M : Mapping) (p : RulePlace) → IsShaped K M → violated L5 A K M ≡ Some p → IsFirstBreach L5 A K M p
unfolding violated
routes_breach A K M p shaped e =
    let (route, f, same) = map_some end_place (first_such (λ route. not (is_brought A K M route)) M.routes) p e in
    let (m, found) = found_such (λ route. not (is_brought A K M route)) M.routes route f in
    let fails : is_brought A K M route ≡ false = not-true _ found in
    subst (λ z. IsFirstBreach L5 A K M z) same (record {
      shape = edge_there A M route (slice_get (node K route.node).operands route.arg) fails;
      broken = λ k. both_ways (is_brought A K M route) fails (brings_of A M route _ (λ u d init has. k route.path u d init m has));
      before = routes_before A K M route shaped f;
    })

-- ---- L6 and L7

-- the first clash is the first resource in a slot where positions aren't alike
clash_breach : (alike : Position → Position → Bool) (IsLike : Position → Position → Type 0) → ((p q : Position) → alike p q ≡ true → IsLike p q) → ((p q : Position) → IsLike p q → alike p q ≡ true) →
    (A : Arch) (K : Kernel) (M : Mapping) (p : RulePlace) → first_clash alike A K M ≡ Some p →
    (r : ℕ) × (s : ℕ) × (at.Resource r s ≡ p) × (r < length A.resources) × (s < M.ii) × (AreAlikeOn A K M r s IsLike → ⊥) ×
    ((q t : ℕ) → t < M.ii → (q < r) ⊎ ((q ≡ r) × (t < s)) → AreAlikeOn A K M q t IsLike)
clash_breach alike IsLike is of A K M p e =
    let (r, lr, on_r, none_r) = found_below (λ r. first_below (λ s. cond (clashes alike M.ii (positions A K M) r s) (Some (at.Resource r s)) None) M.ii) (length A.resources) p e in
    let (s, ls, on_s, none_s) = found_below (λ s. cond (clashes alike M.ii (positions A K M) r s) (Some (at.Resource r s)) None) M.ii p on_r in
    let (clash, same) = some_cond (clashes alike M.ii (positions A K M) r s) (at.Resource r s) p on_s in
    let (x, y, mx, my, a, b, c, d, differ) = unlike_on alike M.ii (positions A K M) r s clash in
    let clear : (q t : ℕ) → t < M.ii → (q < r) ⊎ ((q ≡ r) × (t < s)) → clashes alike M.ii (positions A K M) q t ≡ false =
    λ q t lt l.
    ⊎_elim (λ h. some_none _ (at.Resource q t) (first_below_none (λ s. cond (clashes alike M.ii (positions A K M) q s) (Some (at.Resource q s)) None) M.ii t (none_r q h) lt))
    (λ h. subst (λ z. clashes alike M.ii (positions A K M) z t ≡ false) (sym h.0) (some_none _ (at.Resource r t) (none_s t h.1))) l in
    (r, s, same, lr, ls, (λ k. both_ways (alike x y) differ (of x y (k x y mx my a b c d))), λ q t lt l x y mx my a b c d. is x y (alike_on alike M.ii (positions A K M) q t (clear q t lt l) x y mx my a b c d))

alone_before : (A : Arch) (K : Kernel) (M : Mapping) (r s : ℕ) →
    ((q t : ℕ) → t < M.ii → (q < r) ⊎ ((q ≡ r) × (t < s)) → AreAlikeOn A K M q t (λ x y. (x.source ≡ y.source) × (x.time ≡ y.time))) →
    (p : RulePlace) → IsPlaceOf L6 A K M p → IsBefore p (at.Resource r s) → KeepsAt L6 A K M p
alone_before A K M r s h (at.Resource q t) inside l = h q t inside.1 l
alone_before A K M r s h _ inside l = absurd inside

alone_breach : (A : Arch) (K : Kernel) (M : Mapping) (p : RulePlace) → violated L6 A K M ≡ Some p → IsFirstBreach L6 A K M p
unfolding violated
alone_breach A K M p e =
    let (r, s, same, lr, ls, broken, clear) = clash_breach same_value (λ x y. (x.source ≡ y.source) × (x.time ≡ y.time)) values_same same_values A K M p e in
    subst (λ z. IsFirstBreach L6 A K M z) same (record { shape = (lr, ls); broken = broken; before = alone_before A K M r s clear })

way_before : (A : Arch) (K : Kernel) (M : Mapping) (r s : ℕ) →
    ((q t : ℕ) → t < M.ii → (q < r) ⊎ ((q ≡ r) × (t < s)) → AreAlikeOn A K M q t (λ x y. x.from ≡ y.from)) →
    (p : RulePlace) → IsPlaceOf L7 A K M p → IsBefore p (at.Resource r s) → KeepsAt L7 A K M p
way_before A K M r s h (at.Resource q t) inside l = h q t inside.1 l
way_before A K M r s h _ inside l = absurd inside

way_breach : (A : Arch) (K : Kernel) (M : Mapping) (p : RulePlace) → violated L7 A K M ≡ Some p → IsFirstBreach L7 A K M p
unfolding violated
way_breach A K M p e =
    let (r, s, same, lr, ls, broken, clear) = clash_breach same_way (λ x y. x.from ≡ y.from) ways_same same_ways A K M p e in
    subst (λ z. IsFirstBreach L7 A K M z) same (record { shape = (lr, ls); broken = broken; before = way_before A K M r s clear })

-- ---- all rules

-- the place of a rule that is violated is the first at which it is broken
pub first_breach : (rule : Rule) (A : Arch) (K : Kernel) (M : Mapping) (p : RulePlace) → IsShaped K M → violated rule A K M ≡ Some p → IsFirstBreach rule A K M p
first_breach L1 A K M p shaped e = interval_breach A K M p e
first_breach L2 A K M p shaped e = units_breach A K M p shaped.places e
first_breach L3 A K M p shaped e = apart_breach A K M p shaped.places e
first_breach L4 A K M p shaped e = order_breach A K M p e
first_breach L5 A K M p shaped e = routes_breach A K M p shaped e
first_breach L6 A K M p shaped e = alone_breach A K M p e
first_breach L7 A K M p shaped e = way_breach A K M p e

-- a rule that the mapping keeps, it keeps at each place
pub keeps_at : (rule : Rule) (A : Arch) (K : Kernel) (M : Mapping) (p : RulePlace) → Keeps rule A K M → IsPlaceOf rule A K M p → KeepsAt rule A K M p
keeps_at L1 A K M at.Mapping k inside = k
keeps_at L2 A K M (at.Node v) k inside = k v inside
keeps_at L3 A K M (at.Node v) k inside =
    λ w l a b. let within : w < size K = omega (arith, l, inside) in let same : w ≡ v = k w v within inside a b in omega (arith, same, l)
keeps_at L4 A K M (at.Order e) k inside = λ u v d has. k e u v d has
keeps_at L5 A K M (at.Arg v a) k inside = λ path u d init m has. k (record { node = v; arg = a; path = path }) u d init m has
keeps_at L6 A K M (at.Resource r s) k inside = λ p q mp mq a b c d. k p q mp mq (a ∙ sym c) (b ∙ sym d)
keeps_at L7 A K M (at.Resource r s) k inside = λ p q mp mq a b c d. k p q mp mq (a ∙ sym c) (b ∙ sym d)
keeps_at _ A K M _ k inside = absurd inside
