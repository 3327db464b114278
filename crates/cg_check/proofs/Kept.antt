-- L1 to L5: a mapping keeps the rule where no place violates it, and what the tests of its places say.
use Rattle.std.proofs.Common.{◌≡◌, ℕ, ◌+◌, ◌*◌, ◌%◌, ◌<◌, List, Bool, true, false, cond, take, length, Some, None, refl, sym, ap, ◌∙◌, subst, arith, ⊎_elim, eqb-true, eq-eqb}
use Rattle.std.specs.Prelude.{◌&&◌, not, eqb, nat_lt, nat_le, slice_get}
use Rattle.std.proofs.lemmas.Bool.{and_parts, and_from, not-false, ltb-true, leb-true, lt-ltb, le-leb, cases_order, cond-true, both_ways}
use Rattle.std.proofs.lemmas.Option.{slice_get-get_or, get_or_from_slice_get}
use Rattle.cg_word.proofs.Marks.{among_from, among_it}
use Rattle.cg_model.specs.declared.kernel.Operand.TheVariants.{Edge}
use Rattle.cg_model.specs.Kernel.{Kernel, HasOperand, size}
use Rattle.cg_model.specs.Array.{Arch, unit}
use Rattle.cg_model.specs.declared.mapping.Place.{Place}
use Rattle.cg_model.specs.declared.mapping.Route.{Route}
use Rattle.cg_model.specs.Mapping.{Mapping, Brings, place}
use Rattle.cg_model.proofs.Options.{map_none}
use Rattle.cg_model.proofs.Positions.{first_from_none}
use Rattle.cg_model.proofs.Elements.{any_true, take_get}
use Rattle.cg_check.specs.Edges.{data_edge}
use Rattle.cg_check.specs.declared.rule.RulePlace.TheVariants as at
use Rattle.cg_check.specs.Rules.{L1, L2, L3, L4, L5, Keeps, StandsWell, violated, is_interval, stands_well, is_shared, is_after, is_brought, brings, end_place}
use Rattle.cg_check.proofs.Lists.{any_of, taken_get, first_such_not}
use Rattle.cg_check.proofs.Links.{arrives_it}
use Rattle.cg_model.proofs.Lookups.{Contains-get}

-- ---- L1

cond_some : {X : Type 0} (b : Bool) (x : X) → cond b None (Some x) ≡ None → b ≡ true
cond_some true x e = refl
cond_some false x e = let bad : Some x ≡ None = e in cc

pub interval_kept : (A : Arch) (K : Kernel) (M : Mapping) → violated L1 A K M ≡ None → Keeps L1 A K M
unfolding violated
interval_kept A K M none =
    let (a, b) = and_parts (nat_lt 0 M.ii) (nat_le M.ii A.contexts) (cond_some (is_interval A M) at.Mapping none) in
    (ltb-true 0 M.ii a, leb-true M.ii A.contexts b)

pub interval_none : (A : Arch) (K : Kernel) (M : Mapping) → Keeps L1 A K M → violated L1 A K M ≡ None
unfolding violated
interval_none A K M k = cond-true (is_interval A M) None (Some at.Mapping) (and_from _ _ (lt-ltb 0 M.ii k.0) (le-leb M.ii A.contexts k.1))

-- ---- L2

pub place_at : (M : Mapping) (v : ℕ) → v < length M.places → slice_get M.places v ≡ Some (place M v)
place_at M v l = slice_get-get_or M.places v (record { unit = 0; time = 0 }) l

pub place_is : (M : Mapping) (v : ℕ) (p : Place) → slice_get M.places v ≡ Some p → place M v ≡ p
place_is M v p e = get_or_from_slice_get M.places v p (record { unit = 0; time = 0 }) e

pub stands : (A : Arch) (K : Kernel) (M : Mapping) (v : ℕ) → stands_well A K v (place M v) ≡ true → StandsWell A K M v
stands A K M v h =
    let (a, b) = and_parts (nat_lt (place M v).unit (length A.units)) _ h in
    let (c, d) = and_parts _ (nat_le (place M v).time 65534) b in
    record { known = ltb-true _ _ a; offered = among_from _ _ c; soon = leb-true _ _ d }

pub units_kept : (A : Arch) (K : Kernel) (M : Mapping) → length M.places ≡ size K → violated L2 A K M ≡ None → Keeps L2 A K M
unfolding violated
units_kept A K M long none v l =
    let within : v < length M.places = omega arith in
    let f = first_from_none (λ v p. not (stands_well A K v p)) 0 M.places v v (place M v) (map_none at.Node _ none) (place_at M v within) (omega arith) in
    stands A K M v (not-false (stands_well A K v (place M v)) f)

pub well : (A : Arch) (K : Kernel) (M : Mapping) (v : ℕ) → StandsWell A K M v → stands_well A K v (place M v) ≡ true
well A K M v s = and_from _ _ (lt-ltb _ _ s.known) (and_from _ _ (among_it _ _ s.offered) (le-leb _ _ s.soon))

-- ---- L3

-- an earlier node with the same unit in the same slot makes a place shared
pub shares : (M : Mapping) (v w : ℕ) → v < w → w < length M.places → (place M v).unit ≡ (place M w).unit → (place M v).time % M.ii ≡ (place M w).time % M.ii →
    is_shared M.ii (take w M.places) (place M w) ≡ true
shares M v w l within e f =
    let before : v < length M.places = omega arith in
    any_of _ (take w M.places) (place M v) (Contains-get (take w M.places) v (place M v) (take_get M.places w v (place M v) (place_at M v before) l))
    (and_from _ _ (eq-eqb _ _ e) (eq-eqb _ _ f))

-- and where a place is shared, there is one
pub shared_with : (M : Mapping) (w : ℕ) → is_shared M.ii (take w M.places) (place M w) ≡ true →
    (v : ℕ) × (v < w) × ((place M v).unit ≡ (place M w).unit) × ((place M v).time % M.ii ≡ (place M w).time % M.ii)
shared_with M w h =
    let found = any_true (λ q. eqb q.unit (place M w).unit && eqb (q.time % M.ii) ((place M w).time % M.ii)) (take w M.places) h in
    let v = found.0 in
    let q = found.1.0 in
    let (there, before) = taken_get M.places w v q found.1.1.0 in
    let (a, b) = and_parts _ _ found.1.1.1 in
    (v, before, ap (λ z. z.unit) (place_is M v q there) ∙ eqb-true _ _ a, ap (λ z. z.time % M.ii) (place_is M v q there) ∙ eqb-true _ _ b)

unshared : (A : Arch) (K : Kernel) (M : Mapping) → violated L3 A K M ≡ None → (w : ℕ) → w < length M.places → is_shared M.ii (take w M.places) (place M w) ≡ false
unfolding violated
unshared A K M none w l = first_from_none (λ v p. is_shared M.ii (take v M.places) p) 0 M.places w w (place M w) (map_none at.Node _ none) (place_at M w l) (omega arith)

pub apart_kept : (A : Arch) (K : Kernel) (M : Mapping) → length M.places ≡ size K → violated L3 A K M ≡ None → Keeps L3 A K M
apart_kept A K M long none v w l m e f =
    let lv : v < length M.places = omega arith in
    let lw : w < length M.places = omega arith in
    ⊎_elim (λ (same : v ≡ w). same)
    (λ later. ⊎_elim (λ (h : v < w). absurd (both_ways _ (unshared A K M none w lw) (shares M v w h lw e f)))
    (λ (h : w < v). absurd (both_ways _ (unshared A K M none v lv) (shares M w v h lv (sym e) (sym f)))) later)
    (cases_order v w)

-- ---- L4

pub order_kept : (A : Arch) (K : Kernel) (M : Mapping) → violated L4 A K M ≡ None → Keeps L4 A K M
unfolding violated
order_kept A K M none e u v d has =
    leb-true _ _ (not-false _ (first_from_none (λ e edge. not (is_after M edge)) 0 K.order e e (record { from = u; to = v; distance = d }) (map_none at.Order _ none) has (omega arith)))

-- ---- L5

-- a route whose path passes the test brings the value of its edge
pub brought : (A : Arch) (K : Kernel) (M : Mapping) (route : Route) (u d : ℕ) (init : List ℕ) → is_brought A K M route ≡ true → HasOperand K route.node route.arg (Edge u d init) →
    (port : ℕ) × (slice_get (unit A (place M route.node).unit).ports route.arg ≡ Some port) × Brings A M u route.path port ((place M route.node).time + M.ii * d)
brought A K M route u d init h e = arrives_it A M u route.path _ _ (subst (λ o. brings A M route (data_edge o) ≡ true) e h)

pub routes_kept : (A : Arch) (K : Kernel) (M : Mapping) → violated L5 A K M ≡ None → Keeps L5 A K M
unfolding violated
routes_kept A K M none route u d init m e =
    brought A K M route u d init (not-false _ (first_such_not (λ route. not (is_brought A K M route)) M.routes route (map_none end_place _ none) m)) e
