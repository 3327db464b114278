-- Every state of the walk is good.
use Rattle.std.proofs.Common.{◌≡◌, ◌≢◌, ℕ, zero, suc, ◌+◌, ◌*◌, ◌%◌, ◌<◌, ◌≤◌, Bool, true, false, eqb, List, [], ◌∷◌, length, map, set, Option, Some, None, sym, ap, ◌∙◌, subst, arith, ⊎_elim}
use Rattle.std.specs.Prelude.{All, Contains, slice_get, if◌then◌else◌}
use Rattle.std.proofs.lemmas.Bool.{cases_eq, cases_Bool}
use Rattle.std.proofs.lemmas.Option.{slice_get_within, same_Some, none-some}
use Rattle.std.proofs.lemmas.List.{get_or-set_same, get_or-set_other, length-set, length-map, length-replicate}
use Rattle.std.proofs.lemmas.List.Elements.{All-head, All-tail}
use Rattle.std.proofs.lemmas.List.FromFn.{length-map-range_with_len}
use Rattle.rand_pcg.specs.Lcg.{Lcg}
use Rattle.cg_model.specs.declared.mapping.Place.{Place}
use Rattle.cg_model.specs.Kernel.{Kernel, size, node}
use Rattle.cg_model.specs.Array.{Arch, unit}
use Rattle.cg_model.specs.Limits.{latest_time}
use Rattle.cg_route.specs.Least.{IsTimedPath}
use Rattle.cg_place.specs.declared.moves.Move.{Move}
use Rattle.cg_place.specs.Placed.{place_in, first_places, first_place}
use Rattle.cg_place.proofs.Starting.{each, first_is}
use Rattle.cg_walk_spec.specs.State.{State, EdgeOperand, edges, ends_of}
use Rattle.cg_walk_spec.specs.Walk.{edge, all_edges, with_route, IsFoundFor, IsRouted, touches, touching, unrouted, moved_by, unrouted_start, proposal, aged_state, rested, Walked, start, more}
use Rattle.cg_walk_spec.specs.Pending.{Fits}
use Rattle.cg_walk_spec.specs.Good.{IsReady, IsGood}
use Rattle.cg_walk_spec.proofs.Sets.{get_set_same, get_set_other}
use Rattle.cg_walk_spec.proofs.Uses.{edge_is, away, same_ends, touching_known, all_known, touching_none}
use Rattle.cg_walk_spec.proofs.Drawn.{MayTake, drawn_may, proposal_may}

module _ (A : Arch) (K : Kernel) (ii : ℕ) where
  -- a route that fits keeps a state good
  pub with_route_good : (S : State) (i : ℕ) (route : Option (List ℕ)) → i < length (edges K) → Fits A ii S.places (edge K i) route → IsGood A K ii S → IsGood A K ii (with_route S i route)
  with_route_good S i route l fits good =
      let routes = good.routes in
      record {
        interval = good.interval;
        contexts = good.contexts;
        places = good.places;
        routes = length-set S.routes i route ∙ good.routes;
        histories = good.histories;
        units = good.units;
        offered = good.offered;
        soon = good.soon;
        paths = λ j e path a b.
            ⊎_elim
            (λ (c : j ≡ i).
            let w : slice_get (set S.routes i route) i ≡ Some (Some path) = subst (λ y. slice_get (set S.routes i route) y ≡ Some (Some path)) c b in
            let v : route ≡ Some path = same_Some route (Some path) (sym (get_set_same S.routes i route (omega (arith, routes, l))) ∙ w) in
            let here : Fits A ii S.places (edge K i) (Some path) = subst (λ x. Fits A ii S.places (edge K i) x) v fits in
            subst (λ (x : EdgeOperand). IsTimedPath A (ends_of A ii S.places x) path) (ap (λ y. edge K y) (sym c) ∙ edge_is K j e a) here)
            (λ c. good.paths j e path a (sym (get_set_other S.routes i j route c) ∙ b))
            (cases_eq j i);
      }

  -- what is found fits
  pub found_fits : (S : State) (i : ℕ) (found : Option (List ℕ)) → IsFoundFor A K ii S i found → Fits A ii S.places (edge K i) found
  found_fits S i None h = tt
  found_fits S i (Some path) h = h.0.is_path

  -- routing keeps it
  pub routed_good : (is : List ℕ) (S after : State) → All (λ i. i < length (edges K)) is → IsRouted A K ii is S after → IsGood A K ii S → IsGood A K ii after
  routed_good [] S after all h good = subst (λ (x : State). IsGood A K ii x) h good
  routed_good (i ∷ is) S after all h good =
      routed_good is (with_route S i h.0) after (All-tail (λ i. i < length (edges K)) i is all) h.2
      (with_route_good S i h.0 (All-head (λ i. i < length (edges K)) i is all) (found_fits S i h.0 h.1) good)

  -- and taking routes away
  pub unrouted_good : (is : List ℕ) (S : State) → All (λ i. i < length (edges K)) is → IsGood A K ii S → IsGood A K ii (unrouted is S)
  unrouted_good [] S all good = good
  unrouted_good (i ∷ is) S all good =
      unrouted_good is (with_route S i None) (All-tail (λ i. i < length (edges K)) i is all) (with_route_good S i None (All-head (λ i. i < length (edges K)) i is all) tt good)

-- where the node of a move may take its place, the state after it is good: the routes that are left keep
-- their ends
module _ (A : Arch) (K : Kernel) (ii : ℕ) (S : State) (m : Move) (may : m.node < size K → MayTake A K m.node m.place.unit m.place.time) (good : IsGood A K ii S) where
  abbrev places : List Place
  places = set (unrouted (touching K m.node) S).places m.node m.place

  left : IsGood A K ii (unrouted (touching K m.node) S)
  left = unrouted_good A K ii (touching K m.node) S (touching_known K m.node) good

  -- what holds of the place of each node
  there : (P : ℕ → Place → Type 0) → (m.node < size K → P m.node m.place) → ((w : ℕ) → w < size K → P w (place_in (unrouted (touching K m.node) S).places w)) →
      (w : ℕ) → w < size K → P w (place_in places w)
  there P new old w l =
      let U = unrouted (touching K m.node) S in
      let long = left.places in
      ⊎_elim
      (λ (c : w ≡ m.node).
      let known : m.node < size K = subst (λ x. x < size K) c l in
      let is : place_in places m.node ≡ m.place = get_or-set_same U.places m.node m.place (record { unit = 0; time = 0 }) (omega (arith, long, known)) in
      subst (λ x. P x (place_in places x)) (sym c) (subst (λ p. P m.node p) (sym is) (new known)))
      (λ (c : w ≢ m.node). subst (λ p. P w p) (sym (get_or-set_other U.places m.node w m.place (record { unit = 0; time = 0 }) c)) (old w l))
      (cases_eq w m.node)

  path_left : (i : ℕ) (e : EdgeOperand) (path : List ℕ) → slice_get (edges K) i ≡ Some e → slice_get (unrouted (touching K m.node) S).routes i ≡ Some (Some path) →
      IsTimedPath A (ends_of A ii places e) path
  path_left i e path a b =
      let U = unrouted (touching K m.node) S in
      ⊎_elim
      (λ (t : touches K m.node i ≡ true).
      absurd (none-some path (same_Some None (Some path) (sym (touching_none K m.node S i good.routes (slice_get_within (edges K) i e a) t) ∙ b))))
      (λ (t : touches K m.node i ≡ false).
      let other = away K m.node i e a t in
      subst (λ ends. IsTimedPath A ends path) (sym (same_ends A ii U.places m.node m.place e other.0 other.1)) (left.paths i e path a b))
      (cases_Bool (touches K m.node i))

  pub moved_good : IsGood A K ii (moved_by K m S)
  moved_good = record {
    interval = good.interval;
    contexts = good.contexts;
    places = length-set (unrouted (touching K m.node) S).places m.node m.place ∙ left.places;
    routes = left.routes;
    histories = left.histories;
    units = there (λ v p. p.unit < length A.units) (λ l. (may l).within) left.units;
    offered = there (λ v p. Contains (unit A p.unit).ops (node K v).op) (λ l. (may l).offers) left.offered;
    soon = there (λ v p. p.time ≤ latest_time) (λ l. (may l).soon) left.soon;
    paths = path_left;
  }

-- histories that grow change nothing else
pub aged_good : (A : Arch) (K : Kernel) (ii : ℕ) (S : State) → IsGood A K ii S → IsGood A K ii (aged_state A K ii S)
aged_good A K ii S good = record {
  interval = good.interval;
  contexts = good.contexts;
  places = good.places;
  routes = good.routes;
  histories = length-map-range_with_len _ 0 (length A.resources * ii);
  units = good.units;
  offered = good.offered;
  soon = good.soon;
  paths = good.paths;
}

either : (A : Arch) (K : Kernel) (ii : ℕ) (b : Bool) (S T : State) → IsGood A K ii S → IsGood A K ii T → IsGood A K ii (if b then S else T)
either A K ii true S T s t = s
either A K ii false S T s t = t

pub rested_good : (A : Arch) (K : Kernel) (ii k : ℕ) (S : State) → IsGood A K ii S → IsGood A K ii (rested A K ii k S)
rested_good A K ii k S good = either A K ii (eqb ((k + 1) % 64) 0) (aged_state A K ii S) S (aged_good A K ii S good) good

no_path : {X : Type 0} (xs : List X) (i : ℕ) (path : List ℕ) → slice_get (map (λ (x : X). None) xs) i ≡ Some (Some path) → ⊥
no_path [] i path h = none-some (Some path) h
no_path (x ∷ xs) zero path h = none-some path (same_Some None (Some path) h)
no_path (x ∷ xs) (suc i) path h = no_path xs i path h

module _ (A : Arch) (K : Kernel) (ii : ℕ) (early : List ℕ) (ready : IsReady A K ii early) where
  -- the first places
  at_first : (P : ℕ → Place → Type 0) → ((v : ℕ) → v < size K → P v (first_place A K early v)) → (v : ℕ) → v < size K → P v (place_in (first_places A K early) v)
  at_first P h v l = subst (λ p. P v p) (sym (first_is A K early ready.offered v l)) (h v l)

  first_may : (v : ℕ) → v < size K → MayTake A K v (first_place A K early v).unit (first_place A K early v).time
  first_may v l =
      let m = drawn_may A K ii early ready v 0 0 l (ready.offered v l) (omega arith) in
      record { within = m.within; offers = m.offers; soon = let s = m.soon in omega (arith, s) }

  pub start_good : IsGood A K ii (unrouted_start A K ii early)
  start_good = record {
    interval = ready.interval;
    contexts = ready.contexts;
    places = each A K early ready.offered;
    routes = length-map (edges K) (λ e. None);
    histories = length-replicate (length A.resources * ii) 0;
    units = at_first (λ v p. p.unit < length A.units) (λ v l. (first_may v l).within);
    offered = at_first (λ v p. Contains (unit A p.unit).ops (node K v).op) (λ v l. (first_may v l).offers);
    soon = at_first (λ v p. p.time ≤ latest_time) (λ v l. (first_may v l).soon);
    paths = λ i e path a b. absurd (no_path (edges K) i path b);
  }

  module _ (moves seed : ℕ) where
    pub walked_good : {k : ℕ} {g : Lcg} {S : State} → Walked A K ii early moves seed k g S → IsGood A K ii S
    walked_good (start {S = S} h) = routed_good A K ii (all_edges K) (unrouted_start A K ii early) S (all_known K) h start_good
    walked_good (more {k = k} {g = g} {S = S} {after = T} w l c m) =
        let before = walked_good w in
        let p = proposal A K ii early g in
        let moved = moved_good A K ii S p (proposal_may A K ii early ready g) before in
        let tried = routed_good A K ii (touching K p.node) (moved_by K p S) m.0 (touching_known K p.node) m.1 moved in
        subst (λ (x : State). IsGood A K ii x) (sym m.2) (rested_good A K ii k _ (either A K ii _ m.0 S tried before))
