-- A move keeps what is kept of a placement.
use Rattle.std.proofs.Common.{◌≡◌, ℕ, ◌+◌, ◌-◌, ◌^◌, ◌<◌, ◌≤◌, List, [], length, get_or, set, sym, ap, ◌∙◌, subst, arith, ⊎_elim}
use Rattle.std.specs.Prelude.{slice_index, count_by, filter}
use Rattle.std.proofs.lemmas.Bool.{cases_eq}
use Rattle.std.proofs.lemmas.List.{get_or-set_same, get_or-set_other, length-set, get_or_read}
use Rattle.std.proofs.lemmas.List.Sums.{count_by-le-length, length-filter}
use Rattle.std.proofs.lemmas.List.Elements.{All-filter}
use Rattle.cg_model.specs.declared.kernel.OrderEdge.{OrderEdge}
use Rattle.cg_model.specs.declared.mapping.Place.{Place}
use Rattle.cg_model.specs.Kernel.{size}
use Rattle.cg_model.specs.Limits.{most_order_edges}
use Rattle.cg_place.specs.declared.moves.Move.{Move}
use Rattle.cg_place.specs.Placed.{Placed, IsPlacement, IsMove, MayStand, place_in, after, back}
use Rattle.cg_place.specs.Counts.{is_broken}
use Rattle.cg_place.specs.Reservations.{entry, over, raised, lowered}
use Rattle.cg_place.specs.Touching.{touches, list_of, AreKnown}
use Rattle.cg_place.specs.Kept.{IsKept}
use Rattle.cg_place.proofs.Tables as tables
use Rattle.cg_place.proofs.Tables.{more, less}
use Rattle.cg_place.proofs.Edges.{count_split, count_filter, unmoved, order_known}

-- ---- places

pub placement_after : (P : Placed) (m : Move) → IsPlacement P → IsMove P m → IsPlacement (after P m)
placement_after P m p ok = record {
  kernel = p.kernel;
  some = p.some;
  few = p.few;
  offered = p.offered;
  early = p.early;
  each = length-set P.places m.node m.place ∙ p.each;
  stand = λ v l.
      ⊎_elim
      (λ (same : v ≡ m.node).
      let long = p.each in
      let there : place_in (set P.places m.node m.place) v ≡ m.place = ap (place_in (set P.places m.node m.place)) same ∙ get_or-set_same P.places m.node m.place _ (omega (arith, ok.known)) in
      subst (λ (z : Place). MayStand P.arch P.kernel v z.unit) (sym there) (subst (λ z. MayStand P.arch P.kernel z m.place.unit) (sym same) ok))
      (λ other. subst (λ (z : Place). MayStand P.arch P.kernel v z.unit) (sym (get_or-set_other P.places m.node v m.place _ other)) (p.stand v l))
      (cases_eq v m.node);
}

-- the move back may be made
pub undoes : (P : Placed) (m : Move) → IsPlacement P → IsMove P m → IsMove (after P m) (back P.places m)
undoes P m p ok = let s = p.stand m.node ok.known in record { known = s.known; within = s.within; offered = s.offered }

-- ---- counts

module _ (P : Placed) (m : Move) (counts : List ℕ) (lists : List (List OrderEdge)) (broken : ℕ) (k : IsKept P counts lists broken) (ok : IsMove P m) where
  node_within : m.node < length P.places
  node_within = let e = k.placement.each in omega (arith, ok.known)

  stood : (place_in P.places m.node).unit < length P.arch.units
  stood = (k.placement.stand m.node ok.known).within

  pub release_known : entry P.ii (place_in P.places m.node) < length counts
  release_known = tables.known (length P.arch.units) P.ii P.places counts k.placement.some k.table (place_in P.places m.node) stood

  pub release_some : 0 < slice_index counts (entry P.ii (place_in P.places m.node))
  release_some = tables.held (length P.arch.units) P.ii P.places counts k.placement.some k.table m.node node_within stood

  pub reserve_known : entry P.ii m.place < length (less P.ii counts (place_in P.places m.node))
  reserve_known = tables.less_known (length P.arch.units) P.ii P.places m.node m.place counts k.placement.some node_within stood ok.within k.table

  pub reserve_few : slice_index (less P.ii counts (place_in P.places m.node)) (entry P.ii m.place) + 1 < 2 ^ 32
  reserve_few =
      let a = tables.less_few (length P.arch.units) P.ii P.places m.node m.place counts k.placement.some node_within stood ok.within k.table in
      let b = k.placement.each in
      let c = k.placement.kernel.few in
      omega arith

  pub reserve_small : over (less P.ii counts (place_in P.places m.node)) + 1 < 2 ^ 32
  reserve_small =
      let e = k.placement.each in
      let few = k.placement.kernel.few in
      let a = tables.less_over (length P.arch.units) P.ii P.places m.node m.place counts k.placement.some node_within stood ok.within k.table in
      let b = tables.over_few (length P.arch.units) P.ii P.places counts k.placement.some k.table k.units k.placement.few (omega arith) in
      omega arith

  -- the order edges of the node
  pub edges_are : list_of lists m.node ≡ filter (touches m.node) P.kernel.order
  edges_are = k.touching.right m.node ok.known

  pub edges_known : AreKnown (length P.places) (list_of lists m.node)
  edges_known =
      subst (λ n. AreKnown n (list_of lists m.node)) (sym k.placement.each)
      (subst (AreKnown (size P.kernel)) (sym edges_are) (All-filter (touches m.node) (λ (e : OrderEdge). (e.from < size P.kernel) × (e.to < size P.kernel)) P.kernel.order (order_known P.kernel k.placement.kernel)))

  pub edges_few : length (list_of lists m.node) ≤ most_order_edges
  edges_few = let a = length-filter (touches m.node) P.kernel.order in let d = count_by-le-length (touches m.node) P.kernel.order in let b = ap length edges_are in let c = k.placement.kernel.order.few in omega arith

  pub before_few : count_by (is_broken P.ii P.places) (list_of lists m.node) ≤ broken
  before_few =
      let a = count_filter (is_broken P.ii P.places) (touches m.node) P.kernel.order in
      let b = ap (count_by (is_broken P.ii P.places)) edges_are in
      let c = k.violations in
      omega arith

  pub broken_few : broken ≤ most_order_edges
  broken_few = let a = count_by-le-length (is_broken P.ii P.places) P.kernel.order in let b = k.violations in let c = k.placement.kernel.order.few in omega arith

  pub kept_after : IsKept (after P m) (more P.ii (less P.ii counts (place_in P.places m.node)) m.place) lists
      (broken - count_by (is_broken P.ii P.places) (list_of lists m.node) + count_by (is_broken P.ii (set P.places m.node m.place)) (list_of lists m.node))
  kept_after = record {
    placement = placement_after P m k.placement ok;
    units = k.units;
    table = tables.shifted (length P.arch.units) P.ii P.places m.node m.place counts k.placement.some node_within stood ok.within k.table;
    touching = k.touching;
    violations =
        let was = is_broken P.ii P.places in
        let now = is_broken P.ii (set P.places m.node m.place) in
        let split = count_split now was (touches m.node) (λ e off. unmoved P.ii P.places m.node m.place e off) P.kernel.order in
        let a = ap (count_by was) edges_are in
        let b = ap (count_by now) edges_are in
        let c = before_few in
        let d = k.violations in
        omega arith;
  }

-- ---- what the code reads and writes

module _ (P : Placed) (m : Move) (counts : List ℕ) (lists : List (List OrderEdge)) (broken : ℕ) (k : IsKept P counts lists broken) (ok : IsMove P m)
    (from : Place) (first second : ℕ) (released : List ℕ) (is_from : from ≡ get_or P.places m.node from) (is_first : first ≡ entry P.ii from) (is_released : released ≡ lowered counts first) (is_second : second ≡ entry P.ii m.place) where
  pub from_is : from ≡ place_in P.places m.node
  from_is = let e = k.placement.each in get_or_read P.places m.node from (omega (arith, ok.known)) is_from _

  pub released_is : released ≡ less P.ii counts (place_in P.places m.node)
  released_is = is_released ∙ ap (lowered counts) (is_first ∙ ap (entry P.ii) from_is)

  pub few_read : slice_index released second + 1 < 2 ^ 32
  few_read =
      subst (λ z. slice_index released z + 1 < 2 ^ 32) (sym is_second)
      (subst (λ (z : List ℕ). slice_index z (entry P.ii m.place) + 1 < 2 ^ 32) (sym released_is) (reserve_few P m counts lists broken k ok))

  pub small_read : over released + 1 < 2 ^ 32
  small_read = subst (λ (z : List ℕ). over z + 1 < 2 ^ 32) (sym released_is) (reserve_small P m counts lists broken k ok)

  pub reserved_is : (reserved : List ℕ) → reserved ≡ raised released second → reserved ≡ more P.ii (less P.ii counts (place_in P.places m.node)) m.place
  reserved_is reserved e = e ∙ ap (λ (z : List ℕ). raised z second) released_is ∙ ap (raised (less P.ii counts (place_in P.places m.node))) is_second

-- the list of a node's order edges, as it is read
module _ (P : Placed) (m : Move) (counts : List ℕ) (lists : List (List OrderEdge)) (broken : ℕ) (k : IsKept P counts lists broken) (ok : IsMove P m)
    (item list : List OrderEdge) (is_item : item ≡ get_or lists m.node item) (is_list : list ≡ item) where
  pub list_is : list ≡ list_of lists m.node
  list_is = let e = k.touching.each in is_list ∙ get_or_read lists m.node item (omega (arith, ok.known)) is_item []

  pub known_read : (n : ℕ) → n ≡ length P.places → AreKnown n list
  known_read n e = subst (λ z. AreKnown z list) (sym e) (subst (AreKnown (length P.places)) (sym list_is) (edges_known P m counts lists broken k ok))

  pub length_read : length list ≤ most_order_edges
  length_read = subst (λ (z : List OrderEdge). length z ≤ most_order_edges) (sym list_is) (edges_few P m counts lists broken k ok)

  pub count_read : (read places : List Place) (count : ℕ) → count ≡ count_by (is_broken P.ii read) list → read ≡ places → count ≡ count_by (is_broken P.ii places) (list_of lists m.node)
  count_read read places count e is = e ∙ ap (λ (z : List Place). count_by (is_broken P.ii z) list) is ∙ ap (count_by (is_broken P.ii places)) list_is
