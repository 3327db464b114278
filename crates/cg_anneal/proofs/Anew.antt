-- The cost of a state, counted anew.
use Rattle.std.proofs.Common.{◌≡◌, ℕ, zero, suc, ◌+◌, ◌*◌, ◌<◌, ◌≤◌, ◌^◌, List, [], ◌∷◌, ◌++◌, length, take, get_or, Option, None, refl, sym, ap, ◌∙◌, subst, arith, append_assoc, length-append}
use Rattle.std.proofs.Math.Seq.{take-length}
use Rattle.std.proofs.lemmas.List.{append-nil, ext_get_or}
use Rattle.cg_word.proofs.Marks.{among_it}
use Rattle.cg_model.specs.Kernel.{Kernel, size, node}
use Rattle.cg_model.specs.Array.{Arch, unit}
use Rattle.cg_model.specs.Mapping.{Position}
use Rattle.cg_model.specs.declared.mapping.Place.{Place}
use Rattle.cg_congestion.specs.Claims.{uses}
use Rattle.cg_congestion.specs.Table.{Table, IsMore, excess}
use Rattle.cg_congestion.proofs.Plain.{excess_le}
use Rattle.cg_congestion.proofs.Uses.{uses_append}
use Rattle.cg_place.specs.Placed.{Placed, MayStand, place_in}
use Rattle.cg_place.specs.Counts.{order_violations, unit_excess}
use Rattle.cg_walk_spec.specs.declared.edge.EdgeOperand.{EdgeOperand}
use Rattle.cg_walk_spec.specs.State.{edges, positions_by, positions_of_all, state_positions, table_of_state, missing, cost}
use Rattle.cg_walk_spec.specs.Walk.{edge}
use Rattle.cg_walk_spec.proofs.Alike.{excess_same}
use Rattle.cg_walk_spec.proofs.Small.{room}
use Rattle.cg_anneal.specs.Walking.{Walking, IsWalking}

-- ---- the positions of the first routes

module _ (A : Arch) (ii : ℕ) (places : List Place) where
  positions_more : (es : List EdgeOperand) (rs : List (Option (List ℕ))) (k : ℕ) (d : EdgeOperand) → k < length es → length rs ≡ length es →
      positions_of_all A ii places (take (k + 1) es) (take (k + 1) rs) ≡ positions_of_all A ii places (take k es) (take k rs) ++ positions_by A ii places (get_or es k d) (get_or rs k None)
  positions_more [] rs k d l h = absurd (omega arith)
  positions_more (e ∷ es) [] k d l h = absurd (omega (arith, h))
  positions_more (e ∷ es) (r ∷ rs) zero d l h = append-nil (positions_by A ii places e r)
  positions_more (e ∷ es) (r ∷ rs) (suc k) d l h =
      let z : suc k + 1 ≡ suc (k + 1) = omega arith in
      ap (λ n. positions_of_all A ii places (take n (e ∷ es)) (take n (r ∷ rs))) z
      ∙ ap (λ ps. positions_by A ii places e r ++ ps) (positions_more es rs k d (omega arith) (omega (arith, h)))
      ∙ sym (append_assoc (positions_by A ii places e r) (positions_of_all A ii places (take k es) (take k rs)) (positions_by A ii places (get_or es k d) (get_or rs k None)))

  positions_first : (es : List EdgeOperand) (rs : List (Option (List ℕ))) (k : ℕ) → length (positions_of_all A ii places (take k es) (take k rs)) ≤ length (positions_of_all A ii places es rs)
  positions_first es rs zero = omega arith
  positions_first [] rs (suc k) = omega arith
  positions_first (e ∷ es) [] (suc k) = omega arith
  positions_first (e ∷ es) (r ∷ rs) (suc k) =
      let rest = positions_first es rs k in
      let a = length-append (positions_by A ii places e r) (positions_of_all A ii places (take k es) (take k rs)) in
      let b = length-append (positions_by A ii places e r) (positions_of_all A ii places es rs) in
      omega (arith, rest, a, b)

-- ---- a use table filled with routes

-- it has the positions of the first k routes
pub record IsUsedTo (W : Walking) (k : ℕ) (T : Table) : Type 0 where
  pub arch : T.arch ≡ W.arch
  pub interval : T.interval ≡ W.ii
  pub uses : (p : Position) → uses T.positions p ≡ uses (positions_of_all W.arch W.ii W.state.places (take k (edges W.kernel)) (take k W.state.routes)) p
  pub count : length T.positions ≡ length (positions_of_all W.arch W.ii W.state.places (take k (edges W.kernel)) (take k W.state.routes))

module _ (W : Walking) (walking : IsWalking W) where
  pub used_none : (T : Table) → T.arch ≡ W.arch → T.interval ≡ W.ii → T.positions ≡ [] → IsUsedTo W 0 T
  used_none T a b h = record { arch = a; interval = b; uses = λ p. ap (λ ps. uses ps p) h; count = ap (λ ps. length ps) h }

  pub used_room : (k : ℕ) (T : Table) → IsUsedTo W k T → length T.positions ≤ length (state_positions W.arch W.kernel W.ii W.state)
  unfolding state_positions
  used_room k T used =
      let first = positions_first W.arch W.ii W.state.places (edges W.kernel) W.state.routes k in
      let c = used.count in
      omega (arith, first, c)

  pub used_more : (k : ℕ) (T U : Table) → k < length (edges W.kernel) → IsUsedTo W k T →
      IsMore T U (positions_by W.arch W.ii W.state.places (edge W.kernel k) (get_or W.state.routes k None)) → IsUsedTo W (k + 1) U
  used_more k T U l used more =
      let first = positions_of_all W.arch W.ii W.state.places (take k (edges W.kernel)) (take k W.state.routes) in
      let next = positions_by W.arch W.ii W.state.places (edge W.kernel k) (get_or W.state.routes k None) in
      let e = positions_more W.arch W.ii W.state.places (edges W.kernel) W.state.routes k (record { node = 0; arg = 0; source = 0; distance = 0 }) l walking.good.routes in
      record {
        arch = more.arch ∙ used.arch;
        interval = more.interval ∙ used.interval;
        uses = λ p.
            let a = more.uses p in
            let b = used.uses p in
            let d = ap (λ ps. uses ps p) e in
            let f = uses_append first next p in
            omega (arith, a, b, d, f);
        count =
            let a = more.count in
            let b = used.count in
            let d = ap (λ ps. length ps) e in
            let f = length-append first next in
            omega (arith, a, b, d, f);
      }

  -- all of them are the state's
  all_first : positions_of_all W.arch W.ii W.state.places (take (length (edges W.kernel)) (edges W.kernel)) (take (length (edges W.kernel)) W.state.routes) ≡ state_positions W.arch W.kernel W.ii W.state
  unfolding state_positions
  all_first =
      ap (λ es. positions_of_all W.arch W.ii W.state.places es (take (length (edges W.kernel)) W.state.routes)) (take-length (edges W.kernel))
      ∙ ap (λ n. positions_of_all W.arch W.ii W.state.places (edges W.kernel) (take n W.state.routes)) (sym walking.good.routes)
      ∙ ap (λ rs. positions_of_all W.arch W.ii W.state.places (edges W.kernel) rs) (take-length W.state.routes)

  pub used_excess : (T : Table) → IsUsedTo W (length (edges W.kernel)) T → excess T ≡ excess (table_of_state W.arch W.kernel W.ii W.state)
  used_excess T used =
      excess_same (record T { history = W.state.history }) (table_of_state W.arch W.kernel W.ii W.state)
      (record { arch = used.arch; interval = used.interval; history = refl; uses = λ p. used.uses p ∙ ap (λ ps. uses ps p) all_first })

  pub used_few : (k : ℕ) (T : Table) → IsUsedTo W k T → excess T ≤ 2 ^ 48
  used_few k T used =
      let some = room W.arch W.kernel W.ii W.state walking.arch walking.kernel walking.good in
      let most = excess_le T.interval (length T.arch.resources * T.interval) T.positions in
      let within = used_room k T used in
      omega (arith, some, most, within)

-- ---- a placement filled with places

-- it has the places of the first k nodes
pub record IsPlacedTo (W : Walking) (k : ℕ) (P : Placed) : Type 0 where
  pub arch : P.arch ≡ W.arch
  pub kernel : P.kernel ≡ W.kernel
  pub interval : P.ii ≡ W.ii
  pub each : length P.places ≡ size W.kernel
  pub right : (v : ℕ) → v < k → place_in P.places v ≡ place_in W.state.places v

module _ (W : Walking) (walking : IsWalking W) where
  pub may_stand : (k : ℕ) (P : Placed) (p : Place) → k < size W.kernel → IsPlacedTo W k P → p ≡ place_in W.state.places k → MayStand P.arch P.kernel k p.unit
  may_stand k P p l placed h =
      let good = walking.good in
      let own : MayStand W.arch W.kernel k (place_in W.state.places k).unit =
      record { known = l; within = good.units k l; offered = among_it (unit W.arch (place_in W.state.places k).unit).ops (node W.kernel k).op (good.offered k l) } in
      subst (λ (x : Place). MayStand P.arch P.kernel k x.unit) (sym h)
      (subst (λ (A : Arch). MayStand A P.kernel k (place_in W.state.places k).unit) (sym placed.arch)
      (subst (λ (K : Kernel). MayStand W.arch K k (place_in W.state.places k).unit) (sym placed.kernel) own))

  pub placed_all : (P : Placed) → IsPlacedTo W (size W.kernel) P → P.places ≡ W.state.places
  placed_all P placed =
      let each = placed.each in
      ext_get_or (record { unit = 0; time = 0 }) P.places W.state.places (placed.each ∙ sym walking.good.places) (λ v l. placed.right v (omega (arith, l, each)))

-- ---- the cost

pub cost_anew : (W : Walking) (P : Placed) (a b d e : ℕ) → P.arch ≡ W.arch → P.kernel ≡ W.kernel → P.ii ≡ W.ii → P.places ≡ W.state.places →
    a ≡ missing W.state → b ≡ order_violations P.kernel P.ii P.places → d ≡ unit_excess P.arch P.ii P.places → e ≡ excess (table_of_state W.arch W.kernel W.ii W.state) →
    1000 * (a + b + d) + e ≡ cost W.arch W.kernel W.ii W.state
unfolding cost
cost_anew W P a b d e hA hK hi hp ha hb hd he =
    let S = W.state in
    let broken : b ≡ order_violations W.kernel W.ii S.places =
    hb ∙ ap (λ (K : Kernel). order_violations K P.ii P.places) hK ∙ ap (λ n. order_violations W.kernel n P.places) hi ∙ ap (λ ps. order_violations W.kernel W.ii ps) hp in
    let crowded : d ≡ unit_excess W.arch W.ii S.places =
    hd ∙ ap (λ (A : Arch). unit_excess A P.ii P.places) hA ∙ ap (λ n. unit_excess W.arch n P.places) hi ∙ ap (λ ps. unit_excess W.arch W.ii ps) hp in
    ap (λ n. 1000 * (n + b + d) + e) ha ∙ ap (λ n. 1000 * (missing S + n + d) + e) broken ∙ ap (λ n. 1000 * (missing S + order_violations W.kernel W.ii S.places + n) + e) crowded
    ∙ ap (λ n. 1000 * (missing S + order_violations W.kernel W.ii S.places + unit_excess W.arch W.ii S.places) + n) he
