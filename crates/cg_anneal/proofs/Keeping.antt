-- What is kept of the walk, as its state changes.
use Rattle.std.proofs.Common.{◌≡◌, ◌≢◌, ℕ, zero, suc, ◌+◌, ◌-◌, ◌*◌, ◌<◌, ◌≤◌, ◌^◌, cond, List, [], ◌∷◌, length, map, replicate, get_or, set, Option, Some, None, refl, sym, ap, ◌∙◌, subst, arith}
use Rattle.std.specs.Prelude.{All, count_by, slice_get, slice_index}
use Rattle.std.proofs.lemmas.Option.{same_Some, none-some, slice_get_within, slice_get-get_or}
use Rattle.std.proofs.lemmas.List.{get_or_read}
use Rattle.std.proofs.lemmas.List.Sums.{sum_by-cons, count_by-le-length}
use Rattle.std.proofs.lemmas.List.Elements.{All-head, All-tail, filter_passes}
use Rattle.cg_model.specs.Kernel.{Kernel, IsKernel, size, node}
use Rattle.cg_model.specs.Array.{Arch, IsArch, unit, port}
use Rattle.cg_model.specs.Limits.{latest_time}
use Rattle.cg_model.specs.declared.mapping.Place.{Place}
use Rattle.cg_model.specs.declared.kernel.Operand.TheVariants.{Edge}
use Rattle.cg_model.specs.Mapping.{Position, positions_on}
use Rattle.cg_congestion.specs.Claims.{uses}
use Rattle.cg_mrrg.specs.Graph.{Graph}
use Rattle.cg_congestion.specs.Table.{Table, IsMore, aged, excess}
use Rattle.cg_route.specs.Least.{Ends, IsTimedPath, IsFound}
use Rattle.cg_place.specs.declared.moves.Move.{Move}
use Rattle.cg_place.specs.Placed.{Placed, IsMove, moved, after, back, place_in, first_places}
use Rattle.cg_place.specs.Counts.{order_violations, unit_excess}
use Rattle.cg_congestion.proofs.Plain.{excess_le}
use Rattle.cg_word.proofs.Marks.{among_it, among_from}
use Rattle.cg_walk_spec.specs.State.{State, edges, ends_of, positions_of_all, is_missing, missing, cost, state_positions, table_of_state}
use Rattle.cg_walk_spec.specs.declared.edge.EdgeOperand.{EdgeOperand}
use Rattle.cg_walk_spec.specs.Walk.{edge, all_edges, touches, touching, with_route, unrouted, moved_by, aged_state, unrouted_start, IsFoundFor}
use Rattle.cg_walk_spec.specs.Ranges.{AreInRange}
use Rattle.cg_walk_spec.proofs.Edges.{IsEdge, edges_are}
use Rattle.cg_walk_spec.proofs.Small.{ends_in_range, path_within, path_short, room, edges_few}
use Rattle.cg_walk_spec.specs.Good.{IsReady, IsGood}
use Rattle.cg_walk_spec.specs.Alike.{AreAlike}
use Rattle.cg_walk_spec.proofs.Alike.{alike_more, alike_less, aged_same, found_same, cost_by}
use Rattle.cg_walk_spec.proofs.Drawn.{MayTake}
use Rattle.cg_walk_spec.proofs.Keeps.{with_route_good, moved_good, aged_good, start_good}
use Rattle.cg_walk_spec.specs.Pending.{Pending}
use Rattle.cg_walk_spec.proofs.Pending.{with_same_route}
use Rattle.cg_walk_spec.proofs.Uses.{route_more, route_less, placed_alone, touching_known}
use Rattle.cg_anneal.specs.Walking.{Walking, IsKept, IsAlone, MayPlace, at_state, ends_at, ends_are}
use Rattle.cg_anneal.specs.declared.ends.RouteEnds.{RouteEnds}

-- ---- how many have no route

count_cons : (r : Option (List ℕ)) (rs : List (Option (List ℕ))) → count_by is_missing (r ∷ rs) ≡ cond (is_missing r) 1 0 + count_by is_missing rs
count_cons r rs = sum_by-cons (λ x. cond (is_missing x) 1 0) r rs

missing_set : (rs : List (Option (List ℕ))) (i : ℕ) (old new : Option (List ℕ)) → slice_get rs i ≡ Some old →
    count_by is_missing (set rs i new) + cond (is_missing old) 1 0 ≡ count_by is_missing rs + cond (is_missing new) 1 0
missing_set [] i old new h = absurd (none-some old h)
missing_set (r ∷ rs) zero old new h =
    let a : ◌≡◌ {A = ℕ} (cond (is_missing r) 1 0) (cond (is_missing old) 1 0) = ap (λ z. cond (is_missing z) 1 0) (same_Some r old h) in
    let b = count_cons r rs in
    let d : count_by is_missing (new ∷ rs) ≡ cond (is_missing new) 1 0 + count_by is_missing rs = count_cons new rs in
    let e : count_by is_missing (set (r ∷ rs) 0 new) ≡ cond (is_missing new) 1 0 + count_by is_missing rs = d in
    omega (arith, a, b, e)
missing_set (r ∷ rs) (suc i) old new h =
    let rest = missing_set rs i old new h in
    let b = count_cons r rs in
    let e : count_by is_missing (set (r ∷ rs) (suc i) new) ≡ cond (is_missing r) 1 0 + count_by is_missing (set rs i new) = count_cons r (set rs i new) in
    omega (arith, rest, b, e)

none_at : (rs : List (Option (List ℕ))) (i : ℕ) → i < length rs → ((path : List ℕ) → slice_get rs i ≢ Some (Some path)) → slice_get rs i ≡ Some None
none_at [] i l h = absurd (omega arith)
none_at (None ∷ rs) zero l h = refl
none_at (Some p ∷ rs) zero l h = absurd (h p refl)
none_at (r ∷ rs) (suc i) l h = none_at rs i (omega arith) h

-- taking routes away changes nothing where there are none
pub unrouted_idle : (is : List ℕ) (S : State) → Pending is S → unrouted is S ≡ S
unrouted_idle [] S h = refl
unrouted_idle (i ∷ is) S h =
    let e : with_route S i None ≡ S = with_same_route S i None (All-head (λ j. slice_get S.routes j ≡ Some None) i is h) in
    subst (λ (X : State). unrouted is X ≡ S) (sym e) (unrouted_idle is S (All-tail (λ j. slice_get S.routes j ≡ Some None) i is h))

module _ (W : Walking) (graph : Graph) (es : List EdgeOperand) (P : Placed) (T : Table) (lost : ℕ) (kept : IsKept W graph es P T lost) where
  -- the walk with these routes, and the history of a table
  abbrev pub with_routes : List (Option (List ℕ)) → Table → Walking
  with_routes rs T' = at_state W (record { places = W.state.places; routes = rs; history = T'.history })

  -- a route more
  more_history : (T' : Table) (ps : List _) → IsMore T T' ps → T'.history ≡ W.state.history
  more_history T' ps more = more.history ∙ kept.alike.history

  less_history : (T' : Table) (ps : List _) → IsMore T' T ps → T'.history ≡ W.state.history
  less_history T' ps less = sym less.history ∙ kept.alike.history

  pub more_is : (i : ℕ) (path : List ℕ) (T' : Table) (ps : List _) → IsMore T T' ps →
      with_routes (set W.state.routes i (Some path)) T' ≡ at_state W (with_route W.state i (Some path))
  more_is i path T' ps more = ap (λ h. at_state W (record { places = W.state.places; routes = set W.state.routes i (Some path); history = h })) (more_history T' ps more)

  pub kept_more : (i : ℕ) (path : List ℕ) (T' : Table) → i < length (edges W.kernel) → slice_get W.state.routes i ≡ Some None → IsTimedPath W.arch (ends_at W i) path →
      IsMore T T' (positions_on W.arch (edge W.kernel i).source (ends_at W i).start path) → IsKept (with_routes (set W.state.routes i (Some path)) T') graph es P T' (lost - 1)
  kept_more i path T' l none fits more =
      let S = W.state in
      let w = kept.walking in
      let ps = positions_on W.arch (edge W.kernel i).source (ends_at W i).start path in
      let own = route_more W.arch W.kernel W.ii S i l path none in
      let new : IsKept (at_state W (with_route S i (Some path))) graph es P T' (lost - 1) = record {
        walking = record { arch = w.arch; kernel = w.kernel; ready = w.ready; good = with_route_good W.arch W.kernel W.ii S i (Some path) l fits w.good };
        by_graph = kept.by_graph;
        edges = kept.edges;
        placed = kept.placed;
        alike = alike_more T (table_of_state W.arch W.kernel W.ii S) T' (table_of_state W.arch W.kernel W.ii (with_route S i (Some path))) ps kept.alike more own;
        count = let a = more.count in let b = own.count in let c = kept.count in omega (arith, a, b, c);
        missing = let a = missing_set S.routes i None (Some path) none in let b = kept.missing in omega (arith, a, b);
      } in
      subst (λ (V : Walking). IsKept V graph es P T' (lost - 1)) (sym (more_is i path T' ps more)) new

  -- some have none where one has none
  pub some_missing : (i : ℕ) → slice_get W.state.routes i ≡ Some None → 0 < lost
  some_missing i none = let a = missing_set W.state.routes i None (Some []) none in let b = kept.missing in omega (arith, a, b)

  -- a route less
  pub less_is : (i : ℕ) (T' : Table) (ps : List _) → IsMore T' T ps → with_routes (set W.state.routes i None) T' ≡ at_state W (with_route W.state i None)
  less_is i T' ps less = ap (λ h. at_state W (record { places = W.state.places; routes = set W.state.routes i None; history = h })) (less_history T' ps less)

  pub kept_less : (i : ℕ) (path : List ℕ) (T' : Table) → i < length (edges W.kernel) → slice_get W.state.routes i ≡ Some (Some path) →
      IsMore T' T (positions_on W.arch (edge W.kernel i).source (ends_at W i).start path) → IsKept (with_routes (set W.state.routes i None) T') graph es P T' (lost + 1)
  kept_less i path T' l some less =
      let S = W.state in
      let w = kept.walking in
      let ps = positions_on W.arch (edge W.kernel i).source (ends_at W i).start path in
      let own = route_less W.arch W.kernel W.ii S i l path some in
      let new : IsKept (at_state W (with_route S i None)) graph es P T' (lost + 1) = record {
        walking = record { arch = w.arch; kernel = w.kernel; ready = w.ready; good = with_route_good W.arch W.kernel W.ii S i None l tt w.good };
        by_graph = kept.by_graph;
        edges = kept.edges;
        placed = kept.placed;
        alike = alike_less T (table_of_state W.arch W.kernel W.ii S) T' (table_of_state W.arch W.kernel W.ii (with_route S i None)) ps kept.alike less own;
        count = let a = less.count in let b = own.count in let c = kept.count in omega (arith, a, b, c);
        missing = let a = missing_set S.routes i (Some path) None some in let b = kept.missing in omega (arith, a, b);
      } in
      subst (λ (V : Walking). IsKept V graph es P T' (lost + 1)) (sym (less_is i T' ps less)) new

  -- none where there was none
  pub same_is : (i : ℕ) → slice_get W.state.routes i ≡ Some None → at_state W (with_route W.state i None) ≡ W
  same_is i none = ap (λ (S : State). at_state W S) (with_same_route W.state i None none)

  pub kept_same : (i : ℕ) → slice_get W.state.routes i ≡ Some None → IsKept (at_state W (with_route W.state i None)) graph es P T lost
  kept_same i none = subst (λ (V : Walking). IsKept V graph es P T lost) (sym (same_is i none)) kept

  -- a node without routes is placed
  pub pending_alone : (v : ℕ) → IsAlone W v → Pending (touching W.kernel v) W.state
  pending_alone v alone =
      λ k d l.
      let i = get_or (touching W.kernel v) k d in
      let known = touching_known W.kernel v k d l in
      let long = kept.walking.good.routes in
      none_at W.state.routes i (omega (arith, known, long)) (λ path. alone i path known (filter_passes (touches W.kernel v) (all_edges W.kernel) k d l))

  pub kept_placed : (m : Move) → MayPlace W m → IsAlone W m.node → IsKept (at_state W (record W.state { places = moved W.state.places m })) graph es (after P m) T lost
  kept_placed m may alone =
      let S = W.state in
      let w = kept.walking in
      let idle = unrouted_idle (touching W.kernel m.node) S (pending_alone m.node alone) in
      let take : m.node < size W.kernel → MayTake W.arch W.kernel m.node m.place.unit m.place.time = λ l. record { within = may.within; offers = may.offers; soon = may.soon } in
      let good : IsGood W.arch W.kernel W.ii (moved_by W.kernel m S) = moved_good W.arch W.kernel W.ii S m take w.good in
      let same = placed_alone W.arch W.kernel W.ii S m alone in
      record {
        walking = record { arch = w.arch; kernel = w.kernel; ready = w.ready; good = subst (λ (X : State). IsGood W.arch W.kernel W.ii (record X { places = moved X.places m })) idle good };
        by_graph = kept.by_graph;
        edges = kept.edges;
        placed = ap (λ (Q : Placed). after Q m) kept.placed;
        alike = subst (λ ps. AreAlike T (record { arch = W.arch; interval = W.ii; positions = ps; history = S.history })) (sym same) kept.alike;
        count = kept.count ∙ ap (λ ps. length ps) (sym same);
        missing = kept.missing;
      }

  -- histories grow
  pub aged_is : record W.state { history = aged T } ≡ aged_state W.arch W.kernel W.ii W.state
  aged_is = ap (λ h. record W.state { history = h }) (aged_same T (table_of_state W.arch W.kernel W.ii W.state) kept.alike)

  pub kept_aged : IsKept (at_state W (record W.state { history = aged T })) graph es P (record T { history = aged T }) lost
  unfolding state_positions
  kept_aged =
      let S = W.state in
      let w = kept.walking in
      record {
        walking = record { arch = w.arch; kernel = w.kernel; ready = w.ready; good = subst (λ (X : State). IsGood W.arch W.kernel W.ii X) (sym aged_is) (aged_good W.arch W.kernel W.ii S w.good) };
        by_graph = kept.by_graph;
        edges = kept.edges;
        placed = kept.placed;
        alike = record { arch = kept.alike.arch; interval = kept.alike.interval; history = refl; uses = kept.alike.uses };
        count = kept.count;
        missing = kept.missing;
      }

-- ---- ends

module _ (W : Walking) (graph : Graph) (es : List EdgeOperand) (P : Placed) (T : Table) (lost : ℕ) (kept : IsKept W graph es P T lost) (i : ℕ) (l : i < length (edges W.kernel)) where
  -- edge operand i is one of the kernel
  its : IsEdge W.kernel (edge W.kernel i)
  its = edges_are W.kernel i (record { node = 0; arg = 0; source = 0; distance = 0 }) l

  source_known : (edge W.kernel i).source < size W.kernel
  source_known = let e = edge W.kernel i in kept.walking.kernel.wired.sources e.node e.arg e.source e.distance its.0 its.2 its.1

  pub in_range : AreInRange W.arch (ends_at W i)
  in_range = ends_in_range W.arch W.kernel W.ii W.state kept.walking.arch kept.walking.kernel kept.walking.good i l

  module _ (e : EdgeOperand) (read : e ≡ get_or es i e) where
    pub edge_at : e ≡ edge W.kernel i
    edge_at = get_or_read (edges W.kernel) i e l (subst (λ xs. e ≡ get_or xs i e) kept.edges read) (record { node = 0; arg = 0; source = 0; distance = 0 })

    pub source_in : e.source < size P.kernel
    source_in = subst (λ (Q : Placed). e.source < size Q.kernel) (sym kept.placed) (subst (λ (x : EdgeOperand). x.source < size W.kernel) (sym edge_at) source_known)

    pub node_in : e.node < size P.kernel
    node_in = subst (λ (Q : Placed). e.node < size Q.kernel) (sym kept.placed) (subst (λ (x : EdgeOperand). x.node < size W.kernel) (sym edge_at) its.2)

    place_of : (v : ℕ) (p : Place) → p ≡ place_in P.places v → p ≡ place_in W.state.places v
    place_of v p h = h ∙ ap (λ (Q : Placed). place_in Q.places v) kept.placed

    pub from_in : (p : Place) → p ≡ place_in P.places e.source → p.unit < length W.arch.units
    from_in p h =
        subst (λ (q : Place). q.unit < length W.arch.units) (sym (place_of e.source p h))
        (kept.walking.good.units e.source (subst (λ (x : EdgeOperand). x.source < size W.kernel) (sym edge_at) source_known))

    pub to_in : (p : Place) → p ≡ place_in P.places e.node → p.unit < length W.arch.units
    to_in p h =
        subst (λ (q : Place). q.unit < length W.arch.units) (sym (place_of e.node p h))
        (kept.walking.good.units e.node (subst (λ (x : EdgeOperand). x.node < size W.kernel) (sym edge_at) its.2))

    pub early_in : (p : Place) → p ≡ place_in P.places e.source → p.time ≤ latest_time
    early_in p h =
        subst (λ (q : Place). q.time ≤ latest_time) (sym (place_of e.source p h))
        (kept.walking.good.soon e.source (subst (λ (x : EdgeOperand). x.source < size W.kernel) (sym edge_at) source_known))

    pub port_in : (p : Place) → p ≡ place_in P.places e.node → e.arg < length (unit W.arch p.unit).ports
    port_in p h =
        let x = edge W.kernel i in
        let v = x.node in
        let y = (place_in W.state.places v).unit in
        let K = W.kernel in
        let many = kept.walking.kernel.arities v its.2 in
        let within = slice_get_within (node K v).operands x.arg (Edge x.source x.distance its.0) its.1 in
        let enough = kept.walking.arch.enough_ports y (node K v).op (kept.walking.good.units v its.2) (kept.walking.good.offered v its.2) in
        let here : x.arg < length (unit W.arch y).ports = omega (arith, many, within, enough) in
        subst (λ (q : Place). e.arg < length (unit W.arch q.unit).ports) (sym (place_of e.node p h))
        (subst (λ (z : EdgeOperand). z.arg < length (unit W.arch (place_in W.state.places z.node).unit).ports) (sym edge_at) here)

    pub end_in : (p : Place) → p ≡ place_in P.places e.node → p.time + W.ii * e.distance < 2 ^ 32
    end_in p h =
        let last = in_range.end in
        subst (λ (q : Place). q.time + W.ii * e.distance < 2 ^ 32) (sym (place_of e.node p h))
        (subst (λ (z : EdgeOperand). (place_in W.state.places z.node).time + W.ii * z.distance < 2 ^ 32) (sym edge_at) (omega (arith, last)))

    abbrev ends_by : Place → Place → Ends
    ends_by f t = record { from = (unit W.arch f.unit).out; start = f.time + (unit W.arch f.unit).latency; to = port W.arch t.unit e.arg; end = t.time + W.ii * e.distance }

    pub ends_is : (f t : Place) (r : RouteEnds) → f ≡ place_in P.places e.source → t ≡ place_in P.places e.node → r.from ≡ (unit W.arch f.unit).out →
        r.start ≡ f.time + (unit W.arch f.unit).latency → r.to ≡ port W.arch t.unit e.arg → r.end ≡ t.time + W.ii * e.distance → ends_are r ≡ ends_at W i
    ends_is f t r hf ht a b c d =
        ap (λ x. record { from = x; start = r.start; to = r.to; end = r.end }) a ∙ ap (λ x. record { from = (unit W.arch f.unit).out; start = x; to = r.to; end = r.end }) b
        ∙ ap (λ x. record { from = (unit W.arch f.unit).out; start = f.time + (unit W.arch f.unit).latency; to = x; end = r.end }) c
        ∙ ap (λ x. record { from = (unit W.arch f.unit).out; start = f.time + (unit W.arch f.unit).latency; to = port W.arch t.unit e.arg; end = x }) d
        ∙ ap (λ x. ends_by x t) (place_of e.source f hf) ∙ ap (λ x. ends_by (place_in W.state.places e.source) x) (place_of e.node t ht)
        ∙ ap (λ (x : EdgeOperand). ends_of W.arch W.ii W.state.places x) edge_at

  -- what is found for it
  pub found_for : (u : ℕ) (ends : Ends) (found : Option (List ℕ)) → u ≡ (edge W.kernel i).source → ends ≡ ends_at W i → IsFound T u ends found →
      IsFoundFor W.arch W.kernel W.ii W.state i found
  found_for u ends found hu he f =
      found_same T (table_of_state W.arch W.kernel W.ii W.state) (edge W.kernel i).source (ends_at W i) found kept.alike
      (subst (λ x. IsFound T x (ends_at W i) found) hu (subst (λ x. IsFound T u x found) he f))

  -- what a path of it asks of the use table
  module _ (path : List ℕ) (fits : IsTimedPath W.arch (ends_at W i) path) where
    pub path_within_arch : All (λ r. r < length W.arch.resources) path
    path_within_arch = path_within W.arch kept.walking.arch (ends_at W i) path in_range.from fits

    pub path_known : All (λ r. r < length T.arch.resources) path
    path_known = subst (λ (A : Arch). All (λ r. r < length A.resources) path) (sym kept.alike.arch) path_within_arch

    pub path_near : (start : ℕ) → start ≡ (ends_at W i).start → start + length path < 2 ^ 32
    path_near start h =
        let short = path_short W.arch kept.walking.arch (ends_at W i) path in_range fits in
        let begins = in_range.start in
        omega (arith, short, begins, h)

    pub path_fits_beside : length (state_positions W.arch W.kernel W.ii W.state) + length path ≤ 2 ^ 48
    path_fits_beside =
        let short = path_short W.arch kept.walking.arch (ends_at W i) path in_range fits in
        let some = room W.arch W.kernel W.ii W.state kept.walking.arch kept.walking.kernel kept.walking.good in
        omega (arith, short, some)

    pub path_room : length T.positions + length path ≤ 2 ^ 48
    path_room =
        let some = path_fits_beside in
        let c = kept.count in
        omega (arith, some, c)

  -- a route that is there is held by the use table
  module _ (path : List ℕ) (some : slice_get W.state.routes i ≡ Some (Some path)) where
    pub there_fits : IsTimedPath W.arch (ends_at W i) path
    there_fits = kept.walking.good.paths i (edge W.kernel i) path (slice_get-get_or (edges W.kernel) i (record { node = 0; arg = 0; source = 0; distance = 0 }) l) some

    pub there_held : (ps : List Position) → ps ≡ positions_on W.arch (edge W.kernel i).source (ends_at W i).start path → (p : Position) → uses ps p ≤ uses T.positions p
    there_held ps h p =
        let less = route_less W.arch W.kernel W.ii W.state i l path some in
        let a = less.uses p in
        let b = kept.alike.uses p in
        subst (λ qs. uses qs p ≤ uses T.positions p) (sym h) (omega (arith, a, b))

  -- the positions of its path
  pub positions_are : (u start : ℕ) (ps path : List ℕ) → u ≡ (edge W.kernel i).source → start ≡ (ends_at W i).start → ps ≡ path →
      positions_on T.arch u start ps ≡ positions_on W.arch (edge W.kernel i).source (ends_at W i).start path
  positions_are u start ps path a b d =
      ap (λ (A : Arch). positions_on A u start ps) kept.alike.arch ∙ ap (λ x. positions_on W.arch x start ps) a ∙ ap (λ x. positions_on W.arch (edge W.kernel i).source x ps) b
      ∙ ap (λ xs. positions_on W.arch (edge W.kernel i).source (ends_at W i).start xs) d

  -- what is read of its route
  pub there_is : (x : Option (List ℕ)) → x ≡ get_or W.state.routes i x → slice_get W.state.routes i ≡ Some x
  there_is x read =
      let long = kept.walking.good.routes in
      slice_get-get_or W.state.routes i x (omega (arith, long, l)) ∙ ap (λ y. Some y) (sym read)

-- ---- costs and moves

module _ (W : Walking) (graph : Graph) (es : List EdgeOperand) (P : Placed) (T : Table) (lost : ℕ) (kept : IsKept W graph es P T lost) where
  pub excess_few : excess T ≤ 2 ^ 48
  excess_few =
      let some = room W.arch W.kernel W.ii W.state kept.walking.arch kept.walking.kernel kept.walking.good in
      let most = excess_le T.interval (length T.arch.resources * T.interval) T.positions in
      let c = kept.count in
      omega (arith, some, most, c)

  pub cost_is : (a b d e : ℕ) → a ≡ lost → b ≡ order_violations P.kernel P.ii P.places → d ≡ unit_excess P.arch P.ii P.places → e ≡ excess T →
      1000 * (a + b + d) + e ≡ cost W.arch W.kernel W.ii W.state
  cost_is a b d e ha hb hd he =
      let x = ha ∙ kept.missing in
      let y = hb ∙ ap (λ (Q : Placed). order_violations Q.kernel Q.ii Q.places) kept.placed in
      let z = hd ∙ ap (λ (Q : Placed). unit_excess Q.arch Q.ii Q.places) kept.placed in
      ap (λ n. 1000 * (n + b + d) + e) x ∙ ap (λ n. 1000 * (missing W.state + n + d) + e) y ∙ ap (λ n. 1000 * (missing W.state + order_violations W.kernel W.ii W.state.places + n) + e) z
      ∙ ap (λ n. 1000 * (missing W.state + order_violations W.kernel W.ii W.state.places + unit_excess W.arch W.ii W.state.places) + n) he
      ∙ sym (cost_by W.arch W.kernel W.ii W.state T kept.alike)

  pub may_stand : (m : Move) → MayPlace W m → IsMove P m
  may_stand m may =
      subst (λ (Q : Placed). IsMove Q m) (sym kept.placed) (record { known = may.known; within = may.within; offered = among_it (unit W.arch m.place.unit).ops (node W.kernel m.node).op may.offers })

  -- the place that it had is one too
  pub may_back : (m : Move) → MayPlace W m → IsAlone W m.node → MayPlace (at_state W (record W.state { places = moved W.state.places m })) (back W.state.places m)
  may_back m may alone =
      let g = kept.walking.good in
      record { known = may.known; within = g.units m.node may.known; offers = g.offered m.node may.known; soon = g.soon m.node may.known }

  -- few edge operands have none
  pub few_missing : lost < 2 ^ 31
  few_missing =
      let few = edges_few W.kernel kept.walking.kernel in
      let long = kept.walking.good.routes in
      let most = count_by-le-length is_missing W.state.routes in
      let m = kept.missing in
      omega (arith, few, long, most, m)

  -- edge operands are few
  pub few_edges : (xs : List EdgeOperand) → xs ≡ es → length xs < 2 ^ 32
  few_edges xs h =
      let few = edges_few W.kernel kept.walking.kernel in
      let a = ap (λ (ys : List EdgeOperand). length ys) (h ∙ kept.edges) in
      omega (arith, few, a)

  pub may_proposed : (m : Move) → IsMove P m → m.place.time ≤ slice_index P.early m.node + 2 * P.ii + 7 → MayPlace W m
  may_proposed m move soon =
      let s = subst (λ (Q : Placed). IsMove Q m) kept.placed move in
      let t = subst (λ (Q : Placed). m.place.time ≤ slice_index Q.early m.node + 2 * Q.ii + 7) kept.placed soon in
      let last = kept.walking.ready.soon m.node s.known in
      record { known = s.known; within = s.within; offers = among_from (unit W.arch m.place.unit).ops (node W.kernel m.node).op s.offered; soon = omega (arith, t, last) }

-- ---- the start

none_of_all : (es : List EdgeOperand) → let none : EdgeOperand → Option (List ℕ) = λ e. None in map none es ≡ replicate (length es) None
none_of_all [] = refl
none_of_all (e ∷ es) = ap (λ xs. None ∷ xs) (none_of_all es)

no_positions : (A : Arch) (ii : ℕ) (places : List Place) (es : List EdgeOperand) → positions_of_all A ii places es (map (λ e. None) es) ≡ []
no_positions A ii places [] = refl
no_positions A ii places (e ∷ es) = no_positions A ii places es

all_missing : (es : List EdgeOperand) → let none : EdgeOperand → Option (List ℕ) = λ e. None in count_by is_missing (map none es) ≡ length es
all_missing [] = refl
all_missing (e ∷ es) =
    let rest = all_missing es in
    let a = count_cons None (map (λ (x : EdgeOperand). None) es) in
    let b : ◌≡◌ {A = ℕ} (cond (is_missing None) 1 0) 1 = refl in
    omega (arith, rest, a, b)

module _ (A : Arch) (K : Kernel) (ii : ℕ) (early : List ℕ) (arch : IsArch A) (kernel : IsKernel K) (ready : IsReady A K ii early) where
  abbrev begun : Walking
  begun = record { arch = A; kernel = K; ii = ii; early = early; state = unrouted_start A K ii early }

  abbrev first : Placed
  first = record { arch = A; kernel = K; ii = ii; early = early; places = first_places A K early }

  abbrev unused : Table
  unused = record { arch = A; interval = ii; positions = []; history = replicate (length A.resources * ii) 0 }

  kept_begun : IsKept begun (record { arch = A; interval = ii }) (edges K) first unused (length (edges K))
  unfolding state_positions
  kept_begun =
      let none = no_positions A ii (first_places A K early) (edges K) in
      record {
        walking = record { arch = arch; kernel = kernel; ready = ready; good = start_good A K ii early ready };
        by_graph = refl;
        edges = refl;
        placed = refl;
        alike = record { arch = refl; interval = refl; history = refl; uses = λ p. ap (λ ps. uses ps p) (sym none) };
        count = ap (λ ps. length ps) (sym none);
        missing = sym (all_missing (edges K));
      }

  module _ (graph : Graph) (es : List EdgeOperand) (P : Placed) (T : Table) (n lost : ℕ) (routes : List (Option (List ℕ))) (hg : graph ≡ record { arch = A; interval = ii }) (he : es ≡ edges K) (hp : P ≡ first)
      (ht : T ≡ record { arch = graph.arch; interval = graph.interval; positions = []; history = replicate (length graph.arch.resources * graph.interval) 0 }) (hn : n ≡ length es) (hl : lost ≡ length es) (hr : routes ≡ replicate n None) where
    abbrev shown : Walking
    shown = record { arch = A; kernel = K; ii = ii; early = P.early; state = record { places = P.places; routes = routes; history = T.history } }

    table_is : T ≡ unused
    table_is = ht ∙ ap (λ (G : Graph). record { arch = G.arch; interval = G.interval; positions = []; history = replicate (length G.arch.resources * G.interval) 0 }) hg

    routes_are : routes ≡ map (λ e. None) (edges K)
    routes_are = hr ∙ ap (λ k. replicate k None) (hn ∙ ap (λ (xs : List EdgeOperand). length xs) he) ∙ sym (none_of_all (edges K))

    pub start_is : shown ≡ begun
    start_is =
        ap (λ (Q : Placed). record { arch = A; kernel = K; ii = ii; early = Q.early; state = record { places = Q.places; routes = routes; history = T.history } }) hp
        ∙ ap (λ rs. record { arch = A; kernel = K; ii = ii; early = early; state = record { places = first_places A K early; routes = rs; history = T.history } }) routes_are
        ∙ ap (λ (R : Table). record { arch = A; kernel = K; ii = ii; early = early; state = record { places = first_places A K early; routes = map (λ (e : EdgeOperand). None) (edges K); history = R.history } }) table_is

    pub kept_start : IsKept shown graph es P T lost
    kept_start =
        subst (λ (V : Walking). IsKept V graph es P T lost) (sym start_is)
        (subst (λ (G : Graph). IsKept begun G es P T lost) (sym hg)
        (subst (λ xs. IsKept begun (record { arch = A; interval = ii }) xs P T lost) (sym he)
        (subst (λ (Q : Placed). IsKept begun (record { arch = A; interval = ii }) (edges K) Q T lost) (sym hp)
        (subst (λ (R : Table). IsKept begun (record { arch = A; interval = ii }) (edges K) first R lost) (sym table_is)
        (subst (λ k. IsKept begun (record { arch = A; interval = ii }) (edges K) first unused k) (sym (hl ∙ ap (λ (xs : List EdgeOperand). length xs) he)) kept_begun)))))
