-- What a route more or less, and a node placed, do to the positions of a state.
use Rattle.std.proofs.Common.{◌≡◌, ◌≢◌, ℕ, zero, suc, ◌+◌, ◌*◌, ◌<◌, Bool, true, false, eqb, List, [], ◌∷◌, ◌++◌, length, set, Option, Some, None, refl, sym, ap, ◌∙◌, subst, arith, ⊎_elim}
use Rattle.std.specs.Prelude.{All, Contains, slice_get}
use Rattle.std.proofs.lemmas.Bool.{cases_eq, cases_Bool, eqb-false, or_parts}
use Rattle.std.proofs.lemmas.Option.{slice_get-get_or, slice_get_within, get_or_from_slice_get, same_Some, none-some}
use Rattle.std.proofs.lemmas.List.{get_or-set_other, length-set, length-append}
use Rattle.std.proofs.lemmas.List.Elements.{All-filter}
use Rattle.cg_model.specs.declared.mapping.Place.{Place}
use Rattle.cg_model.specs.Kernel.{Kernel}
use Rattle.cg_model.specs.Array.{Arch, unit, port}
use Rattle.cg_model.specs.Mapping.{Position, positions_on}
use Rattle.cg_congestion.specs.Claims.{uses}
use Rattle.cg_congestion.specs.Table.{IsMore}
use Rattle.cg_congestion.proofs.Uses.{uses_append}
use Rattle.cg_place.specs.declared.moves.Move.{Move}
use Rattle.cg_place.specs.Placed.{place_in, moved}
use Rattle.cg_walk_spec.specs.State.{State, EdgeOperand, edges, ends_of, positions_by, positions_of_all, state_positions, table_of_state}
use Rattle.cg_walk_spec.specs.Walk.{edge, all_edges, with_route, touches, touching, unrouted, moved_by}
use Rattle.cg_walk_spec.proofs.Sets.{get_set_same, get_set_other, filter_has, range_has, range_below}

-- ---- routes

module _ (A : Arch) (ii : ℕ) (places : List Place) (f : List Position → ℕ) (adds : (xs ys : List Position) → f (xs ++ ys) ≡ f xs + f ys) where
  -- a sum over the positions, where edge operand i gets another route
  swapped : (es : List EdgeOperand) (rs : List (Option (List ℕ))) (i : ℕ) (e : EdgeOperand) (old new : Option (List ℕ)) → slice_get es i ≡ Some e → slice_get rs i ≡ Some old →
      f (positions_of_all A ii places es (set rs i new)) + f (positions_by A ii places e old) ≡ f (positions_of_all A ii places es rs) + f (positions_by A ii places e new)
  swapped [] rs i e old new a b = absurd (none-some e a)
  swapped (x ∷ es) [] i e old new a b = absurd (none-some old b)
  swapped (x ∷ es) (r ∷ rs) zero e old new a b =
      let rest = positions_of_all A ii places es rs in
      let n = adds (positions_by A ii places x new) rest in
      let o = adds (positions_by A ii places x r) rest in
      let p : f (positions_by A ii places x r) ≡ f (positions_by A ii places e old) =
      ap (λ (y : EdgeOperand). f (positions_by A ii places y r)) (same_Some x e a) ∙ ap (λ y. f (positions_by A ii places e y)) (same_Some r old b) in
      let q : f (positions_by A ii places x new) ≡ f (positions_by A ii places e new) = ap (λ (y : EdgeOperand). f (positions_by A ii places y new)) (same_Some x e a) in
      omega (arith, n, o, p, q)
  swapped (x ∷ es) (r ∷ rs) (suc i) e old new a b =
      let n = adds (positions_by A ii places x r) (positions_of_all A ii places es (set rs i new)) in
      let o = adds (positions_by A ii places x r) (positions_of_all A ii places es rs) in
      let rest = swapped es rs i e old new a b in
      omega (arith, n, o, rest)

module _ (A : Arch) (K : Kernel) (ii : ℕ) (S : State) (i : ℕ) (known : i < length (edges K)) where
  is_edge : slice_get (edges K) i ≡ Some (edge K i)
  is_edge = slice_get-get_or (edges K) i (record { node = 0; arg = 0; source = 0; distance = 0 }) known

  pub route_more : (path : List ℕ) → slice_get S.routes i ≡ Some None →
      IsMore (table_of_state A K ii S) (table_of_state A K ii (with_route S i (Some path))) (positions_on A (edge K i).source (ends_of A ii S.places (edge K i)).start path)
  unfolding state_positions
  route_more path none = record {
    arch = refl;
    interval = refl;
    history = refl;
    uses = λ p. let z = swapped A ii S.places (λ ps. uses ps p) (λ xs ys. uses_append xs ys p) (edges K) S.routes i (edge K i) None (Some path) is_edge none in omega (arith, z);
    count = let z = swapped A ii S.places length length-append (edges K) S.routes i (edge K i) None (Some path) is_edge none in omega (arith, z);
  }

  pub route_less : (path : List ℕ) → slice_get S.routes i ≡ Some (Some path) →
      IsMore (table_of_state A K ii (with_route S i None)) (table_of_state A K ii S) (positions_on A (edge K i).source (ends_of A ii S.places (edge K i)).start path)
  unfolding state_positions
  route_less path some = record {
    arch = refl;
    interval = refl;
    history = refl;
    uses = λ p. let z = swapped A ii S.places (λ ps. uses ps p) (λ xs ys. uses_append xs ys p) (edges K) S.routes i (edge K i) (Some path) None is_edge some in omega (arith, z);
    count = let z = swapped A ii S.places length length-append (edges K) S.routes i (edge K i) (Some path) None is_edge some in omega (arith, z);
  }

-- ---- places

pub edge_is : (K : Kernel) (i : ℕ) (e : EdgeOperand) → slice_get (edges K) i ≡ Some e → edge K i ≡ e
edge_is K i e h = get_or_from_slice_get (edges K) i e (record { node = 0; arg = 0; source = 0; distance = 0 }) h

-- an edge operand that doesn't touch a node has other nodes
pub away : (K : Kernel) (v i : ℕ) (e : EdgeOperand) → slice_get (edges K) i ≡ Some e → touches K v i ≡ false → (e.node ≢ v) × (e.source ≢ v)
away K v i e h t =
    let at = edge_is K i e h in
    let parts = or_parts (eqb (edge K i).node v) (eqb (edge K i).source v) t in
    (subst (λ (x : EdgeOperand). x.node ≢ v) at (eqb-false (edge K i).node v parts.0), subst (λ (x : EdgeOperand). x.source ≢ v) at (eqb-false (edge K i).source v parts.1))

-- so it keeps its ends where the node is placed anew
pub same_ends : (A : Arch) (ii : ℕ) (places : List Place) (v : ℕ) (p : Place) (e : EdgeOperand) → e.node ≢ v → e.source ≢ v → ends_of A ii (set places v p) e ≡ ends_of A ii places e
same_ends A ii places v p e a b =
    let to = place_in (set places v p) e.node in
    let from = place_in places e.source in
    ap (λ (q : Place). record { from = (unit A q.unit).out; start = q.time + (unit A q.unit).latency; to = port A to.unit e.arg; end = to.time + ii * e.distance })
    (get_or-set_other places v e.source p (record { unit = 0; time = 0 }) b)
    ∙ ap (λ (q : Place). record { from = (unit A from.unit).out; start = from.time + (unit A from.unit).latency; to = port A q.unit e.arg; end = q.time + ii * e.distance })
    (get_or-set_other places v e.node p (record { unit = 0; time = 0 }) a)

module _ (A : Arch) (ii : ℕ) (places : List Place) (v : ℕ) (p : Place) where
  stay : (es : List EdgeOperand) (rs : List (Option (List ℕ))) →
      ((i : ℕ) (e : EdgeOperand) (path : List ℕ) → slice_get es i ≡ Some e → slice_get rs i ≡ Some (Some path) → (e.node ≢ v) × (e.source ≢ v)) →
      positions_of_all A ii (set places v p) es rs ≡ positions_of_all A ii places es rs
  stay [] rs h = refl
  stay (e ∷ es) [] h = refl
  stay (e ∷ es) (None ∷ rs) h = stay es rs (λ i x path a b. h (suc i) x path a b)
  stay (e ∷ es) (Some path ∷ rs) h =
      let other = h 0 e path refl refl in
      ap (λ ends. positions_on A e.source ends.start path ++ positions_of_all A ii (set places v p) es rs) (same_ends A ii places v p e other.0 other.1)
      ∙ ap (λ ps. positions_on A e.source (ends_of A ii places e).start path ++ ps) (stay es rs (λ i x path a b. h (suc i) x path a b))

-- where none of the edge operands that touch a node has a route, placing it changes no position
pub placed_alone : (A : Arch) (K : Kernel) (ii : ℕ) (S : State) (m : Move) →
    ((i : ℕ) (path : List ℕ) → i < length (edges K) → touches K m.node i ≡ true → slice_get S.routes i ≢ Some (Some path)) →
    state_positions A K ii (record S { places = moved S.places m }) ≡ state_positions A K ii S
unfolding state_positions
placed_alone A K ii S m none =
    stay A ii S.places m.node m.place (edges K) S.routes (λ i e path a b.
    ⊎_elim (λ (t : touches K m.node i ≡ true). absurd (none i path (slice_get_within (edges K) i e a) t b)) (λ (t : touches K m.node i ≡ false). away K m.node i e a t)
    (cases_Bool (touches K m.node i)))

-- ---- routes taken away

pub unrouted_places : (is : List ℕ) (S : State) → (unrouted is S).places ≡ S.places
unrouted_places [] S = refl
unrouted_places (i ∷ is) S = unrouted_places is (with_route S i None)

pub unrouted_history : (is : List ℕ) (S : State) → (unrouted is S).history ≡ S.history
unrouted_history [] S = refl
unrouted_history (i ∷ is) S = unrouted_history is (with_route S i None)

pub unrouted_length : (is : List ℕ) (S : State) → length (unrouted is S).routes ≡ length S.routes
unrouted_length [] S = refl
unrouted_length (i ∷ is) S = unrouted_length is (with_route S i None) ∙ length-set S.routes i None

-- an operand without a route stays without; one of the list has none
stays_none : (is : List ℕ) (S : State) (i : ℕ) → slice_get S.routes i ≡ Some None → slice_get (unrouted is S).routes i ≡ Some None
stays_none [] S i h = h
stays_none (j ∷ is) S i h =
    stays_none is (with_route S j None) i
    (⊎_elim (λ (c : i ≡ j). subst (λ y. slice_get (set S.routes j None) y ≡ Some None) (sym c) (get_set_same S.routes j None (subst (λ y. y < length S.routes) c (slice_get_within S.routes i None h))))
    (λ c. get_set_other S.routes j i None c ∙ h) (cases_eq i j))

now_none : (is : List ℕ) (S : State) (i : ℕ) → i < length S.routes → Contains is i → slice_get (unrouted is S).routes i ≡ Some None
now_none [] S i l m = absurd (omega (arith, m.1))
now_none (j ∷ is) S i l (zero, a, here) =
    stays_none is (with_route S j None) i (subst (λ y. slice_get (set S.routes j None) y ≡ Some None) here (get_set_same S.routes j None (subst (λ y. y < length S.routes) (sym here) l)))
now_none (j ∷ is) S i l (suc k, a, here) = now_none is (with_route S j None) i (let z = length-set S.routes j None in omega (arith, z, l)) (k, omega arith, here)

-- the other operands keep theirs
pub others_stay : (is : List ℕ) (S : State) (i : ℕ) → (Contains is i → ⊥) → slice_get (unrouted is S).routes i ≡ slice_get S.routes i
others_stay [] S i out = refl
others_stay (j ∷ is) S i out =
    others_stay is (with_route S j None) i (λ m. out (suc m.0, omega (arith, m.1), m.2)) ∙ get_set_other S.routes j i None (λ same. out (0, omega arith, sym same))

-- the edge operands that touch a node, by number
pub touching_known : (K : Kernel) (v : ℕ) → All (λ i. i < length (edges K)) (touching K v)
touching_known K v = All-filter (touches K v) (λ i. i < length (edges K)) (all_edges K) (range_below (length (edges K)))

pub all_known : (K : Kernel) → All (λ i. i < length (edges K)) (all_edges K)
all_known K = range_below (length (edges K))

-- none of them has a route once theirs are taken away
pub touching_none : (K : Kernel) (v : ℕ) (S : State) (i : ℕ) → length S.routes ≡ length (edges K) → i < length (edges K) → touches K v i ≡ true →
    slice_get (unrouted (touching K v) S).routes i ≡ Some None
touching_none K v S i long l t =
    now_none (touching K v) S i (omega arith) (filter_has (touches K v) (all_edges K) i t (range_has (length (edges K)) i l))

-- so a move changes positions by the routes that it takes away alone
pub moved_positions : (A : Arch) (K : Kernel) (ii : ℕ) (m : Move) (S : State) → length S.routes ≡ length (edges K) →
    state_positions A K ii (moved_by K m S) ≡ state_positions A K ii (unrouted (touching K m.node) S)
moved_positions A K ii m S long =
    placed_alone A K ii (unrouted (touching K m.node) S) m
    (λ i path l t b. none-some path (same_Some None (Some path) (sym (touching_none K m.node S i long l t) ∙ b)))
