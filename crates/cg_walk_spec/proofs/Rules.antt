-- A state of cost 0 stands for a legal mapping.
use Rattle.std.proofs.Common.{◌≡◌, ℕ, suc, ◌+◌, ◌-◌, ◌*◌, ◌%◌, ◌<◌, ◌≤◌, cond, eqb, List, [], ◌∷◌, length, map, Option, Some, None, refl, sym, ap, ◌∙◌, subst, arith, ⊎_elim}
use Rattle.std.specs.Prelude.{All, Contains, count_by, flat_map, slice_get}
use Rattle.std.proofs.lemmas.Bool.{cases_lt, eq-eqb, and_from}
use Rattle.std.proofs.lemmas.List.{get_or_past}
use Rattle.std.proofs.lemmas.List.Sums.{sum_by-cons}
use Rattle.std.proofs.lemmas.Option.{slice_get-get_or, slice_get_within, get_or_from_slice_get, same_Some}
use Rattle.std.proofs.lemmas.List.Elements.{All-nil, All-cons, All-append, All-tail, All-head, All-contains}
use Rattle.cg_word.specs.Word.{arity}
use Rattle.cg_model.specs.declared.array.Kind.TheVariants.{Wire, Out}
use Rattle.cg_model.specs.declared.array.Resource.{Resource}
use Rattle.cg_model.specs.declared.kernel.Operand.{Operand}
use Rattle.cg_model.specs.declared.kernel.Operand.TheVariants.{Edge}
use Rattle.cg_model.specs.declared.mapping.Route.{Route}
use Rattle.cg_model.specs.Kernel.{Kernel, IsKernel, HasOperand, size, node}
use Rattle.cg_model.specs.Array.{Arch, IsArch, resource, unit, port, delay}
use Rattle.cg_model.specs.Mapping.{Mapping, Position, IsLegal, IsShaped, Goes, positions, positions_on, positions_after, of_route, end_of}
use Rattle.cg_mrrg.specs.Nodes.{node_at}
use Rattle.cg_congestion.specs.Claims.{node_of, claims_at, excess_at}
use Rattle.cg_congestion.specs.Table.{excess}
use Rattle.cg_congestion.proofs.Uses.{in_from_Contains}
use Rattle.cg_congestion.proofs.Different.{one_of_few}
use Rattle.cg_congestion.proofs.Tables.{place_within, place_slot, place_row}
use Rattle.cg_route.specs.Least.{Ends, IsTimedPath}
use Rattle.cg_place.specs.Placed.{place_in}
use Rattle.cg_place.specs.Counts.{unit_excess, order_violations}
use Rattle.cg_place.proofs.Scheduled.{excess_none, violations_none, terms_zero}
use Rattle.cg_walk_spec.specs.State.{State, EdgeOperand, edges, ends_of, positions_of_all, state_positions, table_of_state, is_missing, missing, cost, routes_by, mapping_of}
use Rattle.cg_walk_spec.specs.Good.{IsGood}
use Rattle.cg_walk_spec.proofs.Edges.{IsEdge, edges_are, end_at, edges_end}
use Rattle.cg_model.proofs.Mappings.{driven_known}

-- nothing costs
record IsFree (A : Arch) (K : Kernel) (ii : ℕ) (S : State) : Type 0 where
  routed : missing S ≡ 0
  ordered : order_violations K ii S.places ≡ 0
  apart : unit_excess A ii S.places ≡ 0
  alone : excess (table_of_state A K ii S) ≡ 0

is_free : (A : Arch) (K : Kernel) (ii : ℕ) (S : State) → cost A K ii S ≡ 0 → IsFree A K ii S
unfolding cost
is_free A K ii S h = record { routed = omega (arith, h); ordered = omega (arith, h); apart = omega (arith, h); alone = omega (arith, h) }

-- ---- routes

-- where all are routed, the routes end where the edge operands do
routes_end : (es : List EdgeOperand) (rs : List (Option (List ℕ))) → length rs ≡ length es → count_by is_missing rs ≡ 0 → map end_of (routes_by es rs) ≡ map end_at es
routes_end [] rs l h = refl
routes_end (e ∷ es) [] l h = absurd (omega (arith, l))
routes_end (e ∷ es) (None ∷ rs) l h = let z = sum_by-cons (λ r. cond (is_missing r) 1 0) None rs in absurd (omega (arith, z, h))
routes_end (e ∷ es) (Some path ∷ rs) l h =
    let z = sum_by-cons (λ r. cond (is_missing r) 1 0) (Some path) rs in
    ap (λ xs. end_at e ∷ xs) (routes_end es rs (omega (arith, l)) (omega (arith, z, h)))

-- where a route comes from
From : List EdgeOperand → List (Option (List ℕ)) → Route → Type 0
From es rs route =
    (i : ℕ) × (e : EdgeOperand) × (slice_get es i ≡ Some e) × (slice_get rs i ≡ Some (Some route.path)) × (route.node ≡ e.node) × (route.arg ≡ e.arg)

route_from : (es : List EdgeOperand) (rs : List (Option (List ℕ))) → All (From es rs) (routes_by es rs)
unfolding From
route_from [] rs = All-nil (From [] rs)
route_from (x ∷ es) [] = All-nil (From (x ∷ es) [])
route_from (x ∷ es) (None ∷ rs) = λ k d l. let m = route_from es rs k d l in (suc m.0, m.1, m.2, m.3, m.4, m.5)
route_from (x ∷ es) (Some p ∷ rs) =
    All-cons (From (x ∷ es) (Some p ∷ rs)) (record { node = x.node; arg = x.arg; path = p }) (routes_by es rs) (0, x, refl, refl, refl, refl)
    (λ k d l. let m = route_from es rs k d l in (suc m.0, m.1, m.2, m.3, m.4, m.5))

-- ---- positions

-- the mapping's positions are the state's
positions_are : (A : Arch) (K : Kernel) (ii : ℕ) (S : State) (M : Mapping) → M.places ≡ S.places → (es : List EdgeOperand) (rs : List (Option (List ℕ))) → All (IsEdge K) es →
    flat_map (of_route A K M) (routes_by es rs) ≡ positions_of_all A ii S.places es rs
positions_are A K ii S M same [] rs all = refl
positions_are A K ii S M same (e ∷ es) [] all = refl
positions_are A K ii S M same (e ∷ es) (None ∷ rs) all = positions_are A K ii S M same es rs (All-tail (IsEdge K) e es all)
positions_are A K ii S M same (e ∷ es) (Some path ∷ rs) all =
    let rest = positions_are A K ii S M same es rs (All-tail (IsEdge K) e es all) in
    let here = All-head (IsEdge K) e es all in
    rw (here.1, same, rest) refl

pub out_known : (A : Arch) → IsArch A → (x : ℕ) → x < length A.units → (unit A x).out < length A.resources
out_known A arch x l =
    ⊎_elim (λ a. a)
    (λ a.
    let z = ap (λ (r : Resource). r.kind) (get_or_past A.resources (unit A x).out (record { name = []; kind = Wire; drivers = [] }) a) in
    let y : Wire ≡ Out = sym z ∙ arch.outs x l in absurd (cc))
    (cases_lt (unit A x).out (length A.resources))

-- each position of a path stands on a resource of the architecture
after_known : (A : Arch) (u q t : ℕ) (path : List ℕ) (r s : ℕ) → Goes A q t path r s → All (λ (p : Position). p.resource < length A.resources) (positions_after A u q t path)
after_known A u q t [] r s h = All-nil (λ (p : Position). p.resource < length A.resources)
after_known A u q t (x ∷ path) r s h =
    All-cons (λ (p : Position). p.resource < length A.resources) (record { source = u; resource = x; time = t + delay A x; from = Some q }) (positions_after A u x (t + delay A x) path)
    (driven_known A x q h.0) (after_known A u x (t + delay A x) path r s h.1)

path_known : (A : Arch) (u : ℕ) (ends : Ends) (path : List ℕ) → ends.from < length A.resources → IsTimedPath A ends path →
    All (λ (p : Position). p.resource < length A.resources) (positions_on A u ends.start path)
path_known A u ends [] l h = absurd h
path_known A u ends (q ∷ path) l h =
    All-cons (λ (p : Position). p.resource < length A.resources) (record { source = u; resource = q; time = ends.start; from = None }) (positions_after A u q ends.start path)
    (subst (λ x. x < length A.resources) (sym h.0) l)
    (after_known A u q ends.start path ends.to ends.end (subst (λ x. Goes A x ends.start path ends.to ends.end) (sym h.0) h.1))

state_known : (A : Arch) (ii : ℕ) (S : State) → (es : List EdgeOperand) (rs : List (Option (List ℕ))) →
    ((i : ℕ) (e : EdgeOperand) (path : List ℕ) → slice_get es i ≡ Some e → slice_get rs i ≡ Some (Some path) →
    IsTimedPath A (ends_of A ii S.places e) path × ((ends_of A ii S.places e).from < length A.resources)) →
    All (λ (p : Position). p.resource < length A.resources) (positions_of_all A ii S.places es rs)
state_known A ii S [] rs h = All-nil (λ (p : Position). p.resource < length A.resources)
state_known A ii S (e ∷ es) [] h = All-nil (λ (p : Position). p.resource < length A.resources)
state_known A ii S (e ∷ es) (None ∷ rs) h = state_known A ii S es rs (λ i f path a b. h (suc i) f path a b)
state_known A ii S (e ∷ es) (Some path ∷ rs) h =
    let one = h 0 e path refl refl in
    All-append (λ (p : Position). p.resource < length A.resources) (positions_on A e.source (ends_of A ii S.places e).start path) (positions_of_all A ii S.places es rs)
    (path_known A e.source (ends_of A ii S.places e) path one.1 one.0) (state_known A ii S es rs (λ i f path a b. h (suc i) f path a b))

split : (A : Arch) (ends : Ends) (path : List ℕ) → IsTimedPath A ends path → (rest : List ℕ) × (path ≡ ends.from ∷ rest) × Goes A ends.from ends.start rest ends.to ends.end
split A ends [] h = absurd h
split A ends (q ∷ path) h = (path, ap (λ x. x ∷ path) h.0, h.1)

same_edge : (e : EdgeOperand) (v p u d : ℕ) → e.node ≡ v → e.arg ≡ p → e.source ≡ u → e.distance ≡ d → e ≡ record { node = v; arg = p; source = u; distance = d }
same_edge e v p u d a b c f =
    ap (λ x. record e { node = x }) a ∙ ap (λ x. record { node = v; arg = x; source = e.source; distance = e.distance }) b ∙
    ap (λ x. record { node = v; arg = p; source = x; distance = e.distance }) c ∙ ap (λ x. record { node = v; arg = p; source = u; distance = x }) f

-- ---- the rules

module _ (A : Arch) (K : Kernel) (ii : ℕ) (S : State) (arch : IsArch A) (kernel : IsKernel K) (good : IsGood A K ii S) (free : IsFree A K ii S) where
  some : 0 < ii
  some = good.interval

  same_positions : positions A K (mapping_of K ii S) ≡ state_positions A K ii S
  unfolding positions mapping_of state_positions
  same_positions = positions_are A K ii S (record { ii = ii; places = S.places; routes = routes_by (edges K) S.routes }) refl (edges K) S.routes (edges_are K)

  edge_at : (i : ℕ) (e : EdgeOperand) → slice_get (edges K) i ≡ Some e → IsEdge K e
  edge_at i e is = subst (λ (x : EdgeOperand). IsEdge K x) (get_or_from_slice_get (edges K) i e e is) (edges_are K i e (slice_get_within (edges K) i e is))

  source_known : (i : ℕ) (e : EdgeOperand) → slice_get (edges K) i ≡ Some e → e.source < size K
  source_known i e is = let h = edge_at i e is in kernel.wired.sources e.node e.arg e.source e.distance h.0 h.2 h.1

  known : (p : Position) → Contains (state_positions A K ii S) p → p.resource < length A.resources
  unfolding state_positions
  known p m =
      All-contains (λ (p : Position). p.resource < length A.resources) (state_positions A K ii S) p
      (state_known A ii S (edges K) S.routes (λ i e path a b. (good.paths i e path a b, out_known A arch (place_in S.places e.source).unit (good.units e.source (source_known i e a))))) m

  -- positions at one node are one claim
  one_position : (p q : Position) → Contains (state_positions A K ii S) p → Contains (state_positions A K ii S) q → p.resource ≡ q.resource → p.time % ii ≡ q.time % ii → p ≡ q
  one_position p q mp mq same_resource same_slot =
      let r = p.resource in
      let slot = p.time % ii in
      let ps = state_positions A K ii S in
      let k = r * ii + slot in
      let none : excess_at ii ps (node_at ii k) ≡ 0 =
      terms_zero (λ j. excess_at ii ps (node_at ii j)) (length A.resources * ii) k (place_within (length A.resources) ii r p.time some (known p mp)) free.alone in
      let here : node_at ii k ≡ node_of ii p =
      ap (λ x. record { resource = x; slot = k % ii }) (place_row ii r p.time some) ∙ ap (λ x. record { resource = r; slot = x }) (place_slot ii r p.time some) in
      let few : claims_at ii ps (node_of ii p) - 1 ≡ 0 = subst (λ n. claims_at ii ps n - 1 ≡ 0) here none in
      one_of_few ii (node_of ii p) ps p q (omega (arith, few)) (in_from_Contains p ps mp) (in_from_Contains q ps mq)
      (and_from (eqb p.resource r) (eqb (p.time % ii) slot) (eq-eqb p.resource r refl) (eq-eqb slot slot refl))
      (and_from (eqb q.resource r) (eqb (q.time % ii) slot) (eq-eqb q.resource r (sym same_resource)) (eq-eqb (q.time % ii) slot (sym same_slot)))

  -- a route is a path between the ends of its edge operand
  brings : (route : Route) (u d : ℕ) (init : List ℕ) → Contains (routes_by (edges K) S.routes) route → HasOperand K route.node route.arg (Edge u d init) →
      (route.node < size K) × IsTimedPath A (ends_of A ii S.places (record { node = route.node; arg = route.arg; source = u; distance = d })) route.path
  unfolding From
  brings route u d init m h =
      let f = All-contains (From (edges K) S.routes) (routes_by (edges K) S.routes) route (route_from (edges K) S.routes) m in
      let e = f.1 in
      let edge : IsEdge K e = edge_at f.0 e f.2 in
      let h' : HasOperand K e.node e.arg (Edge u d init) = subst (λ a. HasOperand K e.node a (Edge u d init)) f.5 (subst (λ v. HasOperand K v route.arg (Edge u d init)) f.4 h) in
      let y : Edge e.source e.distance edge.0 ≡ Edge u d init = same_Some (Edge e.source e.distance edge.0) (Edge u d init) (sym edge.1 ∙ h') in
      let a : e.source ≡ u = cc in
      let b : e.distance ≡ d = cc in
      let same = same_edge e route.node route.arg u d (sym f.4) (sym f.5) a b in
      (subst (λ v. v < size K) (sym f.4) edge.2, subst (λ (x : EdgeOperand). IsTimedPath A (ends_of A ii S.places x) route.path) same (good.paths f.0 e route.path f.2 f.3))

  -- the unit of a node has a port for each operand
  port_at : (v p : ℕ) (o : Operand) → v < size K → HasOperand K v p o →
      slice_get (unit A (place_in S.places v).unit).ports p ≡ Some (port A (place_in S.places v).unit p)
  port_at v p o l h =
      let x = (place_in S.places v).unit in
      let enough : arity (node K v).op ≤ length (unit A x).ports = arch.enough_ports x (node K v).op (good.units v l) (good.offered v l) in
      let many = kernel.arities v l in
      let within = slice_get_within (node K v).operands p o h in
      slice_get-get_or (unit A x).ports p 0 (omega (arith, enough, many, within))

  shaped : IsShaped K (mapping_of K ii S)
  unfolding mapping_of
  shaped = record {
    places = good.places;
    routes = routes_end (edges K) S.routes good.routes free.routed ∙ edges_end K;
  }

  unit_known : (v : ℕ) → v < length S.places → (place_in S.places v).unit < length A.units
  unit_known v l = let e = good.places in good.units v (omega (arith, e, l))

  is_legal : IsLegal A K (mapping_of K ii S)
  unfolding mapping_of
  is_legal =
      record {
        shape = shaped;
        interval = good.interval;
        contexts = good.contexts;
        units = good.units;
        offered = good.offered;
        soon = good.soon;
        apart = λ v w a b x y. let e = good.places in (excess_none A ii S.places some unit_known).0 free.apart v w (omega (arith, e, a)) (omega (arith, e, b)) x y;
        ordered = (violations_none K ii S.places).0 free.ordered;
        brings = λ route u d init m h.
            let f = brings route u d init m h in (
              port A (place_in S.places route.node).unit route.arg,
              port_at route.node route.arg (Edge u d init) f.0 h,
              split A (ends_of A ii S.places (record { node = route.node; arg = route.arg; source = u; distance = d })) route.path f.1,
            );
        alone = λ p q mp mq x y.
            let z = one_position p q (subst (λ l. Contains l p) same_positions mp) (subst (λ l. Contains l q) same_positions mq) x y in
            (ap (λ (p : Position). p.source) z, ap (λ (p : Position). p.time) z);
        one_way = λ p q mp mq x y.
            let z = one_position p q (subst (λ l. Contains l p) same_positions mp) (subst (λ l. Contains l q) same_positions mq) x y in
            ap (λ (p : Position). p.from) z;
      }

-- a good state of cost 0 stands for a legal mapping
pub legal_at_zero : (A : Arch) (K : Kernel) (ii : ℕ) (S : State) → IsArch A → IsKernel K → IsGood A K ii S → cost A K ii S ≡ 0 → IsLegal A K (mapping_of K ii S)
legal_at_zero A K ii S arch kernel good h = is_legal A K ii S arch kernel good (is_free A K ii S h)
