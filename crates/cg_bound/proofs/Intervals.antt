-- Intervals that are forbidden, ones that are open, and the least one.
use Rattle.std.proofs.Common.{◌≡◌, ◌↔◌, ℕ, zero, suc, ◌+◌, ◌-◌, ◌*◌, ◌<◌, ◌≤◌, List, [], ◌∷◌, length, Bool, true, false, Option, Some, None, refl, sym, ap, ◌∙◌, subst, arith, inl, inr, ⊎_elim, mul-le-mul_right}
use Rattle.std.specs.Prelude.{slice_get}
use Rattle.std.proofs.lemmas.Bool.{cases_lt, cases_Bool, cond-true, cond-false}
use Rattle.std.proofs.Math.Nat.{mul-le-mul_left}
use Rattle.cg_word.specs.declared.op.Op.{Op}
use Rattle.cg_word.specs.Sets.{among}
use Rattle.cg_model.specs.declared.kernel.Node.{Node}
use Rattle.cg_model.specs.declared.kernel.Operand.{Operand}
use Rattle.cg_model.specs.declared.kernel.Operand.TheVariants.{Const as Constant, Edge as DataEdge}
use Rattle.cg_model.specs.declared.kernel.OrderEdge.{OrderEdge}
use Rattle.cg_model.specs.declared.array.Unit.{Unit}
use Rattle.cg_model.specs.Kernel.{Kernel, HasOperand, IsKernel, size, node, no_node}
use Rattle.cg_model.specs.Array.{Arch}
use Rattle.cg_recur.specs.declared.edge.Edge.{Edge}
use Rattle.cg_recur.specs.declared.edge.EdgeId.TheVariants.{Arg, Order}
use Rattle.cg_recur.specs.Edges.{edge_of, of_operand, of_order, latency}
use Rattle.cg_recur.specs.Chain.{IsTight}
use Rattle.cg_recur.proofs.Chains.{none_from_tight, fades}
use Rattle.cg_class.specs.Class.{IsOverfull, offers_one, units_for}
use Rattle.cg_class.specs.Search.{op_at, ops_at, no_unit}
use Rattle.cg_class.proofs.Totals.{total_more, sum_by_total}
use Rattle.cg_class.proofs.Balance.{one_if}
use Rattle.cg_class.proofs.Sets.{offers_from}
use Rattle.cg_bound.specs.declared.interval.Certificate.{Certificate}
use Rattle.cg_bound.specs.declared.interval.Certificate.TheVariants.{Cycle, Class}
use Rattle.cg_bound.specs.Bound.{HasNoRecurrence, HasNoOverfull, IsForbidden, IsOpen, IsMii, IsFirstUnoffered, AllOffered, Certifies, ShowsUnoffered, ShowsForbidden, Shows, IsShownBelow}
use Rattle.cg_bound.proofs.Offers.{unit_for, never_open, one_of_nodes}
use Rattle.cg_model.proofs.Sums.{total}
use Rattle.cg_model.proofs.Mappings.{operand_within}

-- a count above 0 counts one
some_one : (n : ℕ) (p : ℕ → Bool) → 0 < total n (λ v. one_if (p v)) → (v : ℕ) × (v < n) × (p v ≡ true)
some_one zero p h = absurd (omega arith)
some_one (suc n) p h =
    ⊎_elim
    (λ t. (n, omega arith, t))
    (λ t. let z : one_if (p n) ≡ 0 = cond-false (p n) 1 0 t in let (v, l, e) = some_one n p (omega arith) in (v, omega arith, e))
    (cases_Bool (p n))

few : (n : ℕ) (p : ℕ → Bool) → total n (λ v. one_if (p v)) ≤ n
few zero p = omega arith
few (suc n) p = omega (arith, few n p, at_most (p n))
  where
    at_most : (b : Bool) → one_if b ≤ 1
    at_most true = omega arith
    at_most false = omega arith

-- at four cycles a node, an edge that goes back has room in an interval of four cycles for each node
steps : (u v n d ii l : ℕ) → (d ≡ 0 → u < v) → u < n → 4 * n ≤ ii → l ≤ 4 → 4 * u + l ≤ 4 * v + ii * d
steps u v n zero ii l f b h s = let a = f refl in omega arith
steps u v n (suc d) ii l f b h s = let q : ii ≤ ii * suc d = grind arith in omega arith

module _ (A : Arch) (K : Kernel) where
  overfull_fades : (ii jj : ℕ) (s : List Op) → jj ≤ ii → IsOverfull A K ii s → IsOverfull A K jj s
  overfull_fades ii jj s le over = let m : jj * units_for A.units s ≤ ii * units_for A.units s = mul-le-mul_right (units_for A.units s) le in omega arith

  -- what forbids an interval forbids each lower one
  forbidden_below : (ii jj : ℕ) → jj ≤ ii → IsForbidden A K ii → IsForbidden A K jj
  forbidden_below ii jj le h = ⊎_elim (λ (ids, c). inl (ids, fades (edge_of A K) ii jj ids le c)) (λ (s, o). inr (s, overfull_fades ii jj s le o)) h

  pub free_above : (ii jj : ℕ) → ii ≤ jj → HasNoRecurrence A K ii → HasNoRecurrence A K jj
  free_above ii jj le h = λ ids c. h ids (fades (edge_of A K) jj ii ids le c)

  pub not_both : (ii : ℕ) → IsOpen A K ii → IsForbidden A K ii → ⊥
  not_both ii h f = ⊎_elim (λ (ids, c). h.no_recurrence ids c) (λ (s, o). h.no_overfull s o) f

  mii_least : (m n : ℕ) → IsMii A K m → IsMii A K n → m ≤ n
  mii_least m n h k = ⊎_elim (λ (l : n < m). absurd (not_both n k.free (h.below n k.positive l))) (λ l. l) (cases_lt n m)

  pub one_mii : (m n : ℕ) → IsMii A K m → IsMii A K n → m ≡ n
  one_mii m n h k = let a = mii_least m n h k in let b = mii_least n m k h in omega arith

  pub exactly_below : (m ii : ℕ) → IsMii A K m → 1 ≤ ii → IsForbidden A K ii ↔ (ii < m)
  exactly_below m ii h p = (λ f. ⊎_elim (λ l. l) (λ l. absurd (not_both m h.free (forbidden_below ii m l f))) (cases_lt ii m), λ l. h.below ii p l)

  -- ---- certificates

  pub unoffered_certifies : (ii : ℕ) (c : Certificate) → ShowsUnoffered A K c → Certifies A K ii c
  unoffered_certifies ii (Cycle ids) h = absurd h
  unoffered_certifies ii (Class set) (op, first, e) =
      subst (λ z. Certifies A K ii (Class z)) (sym e) (never_open A K op first.unoffered ii, one_of_nodes A K op first.unoffered)

  pub one_shown : (op : Op) (c : Certificate) → IsFirstUnoffered A K op → c ≡ Class (op ∷ []) → ShowsUnoffered A K c
  one_shown op c first e = subst (ShowsUnoffered A K) (sym e) (op, first, refl)

  forbidden_certifies : (ii : ℕ) (c : Certificate) → ShowsForbidden A K ii c → Certifies A K ii c
  forbidden_certifies ii (Cycle ids) h = h.0
  forbidden_certifies ii (Class set) h = (h.1, h.2)

  pub certifies : (ii : ℕ) (c : Certificate) → Shows A K ii c → Certifies A K ii c
  certifies ii c h = ⊎_elim (λ u. unoffered_certifies ii c u) (λ (all, f). forbidden_certifies ii c f) h

  pub certified : (ii : ℕ) (c : Certificate) → Certifies A K ii c → IsForbidden A K ii
  certified ii (Cycle ids) h = inl (ids.items, h)
  certified ii (Class set) h = inr (set, h.0)

  pub shown_forbidden : (ii : ℕ) (c : Certificate) → Shows A K ii c → IsForbidden A K ii
  shown_forbidden ii c h = certified ii c (certifies ii c h)

  -- an open interval below which nothing is open
  pub mii_from : (m : ℕ) (below : Option Certificate) → 1 ≤ m → IsOpen A K m → IsShownBelow A K m below → IsMii A K m
  mii_from m None p o e = record { positive = p; free = o; below = λ ii q l. absurd (omega arith) }
  mii_from m (Some c) p o (l, s) = record { positive = p; free = o; below = λ ii q k. forbidden_below (m - 1) ii (omega arith) (shown_forbidden (m - 1) c s) }

  -- ---- where each operation is offered, a long interval is open

  module _ (good : IsKernel K) (small : (op : Op) → latency A op ≤ 4) (all : AllOffered A K) where
    tight : (ii : ℕ) → 4 * size K ≤ ii → IsTight (edge_of A K) ii (λ v. 4 * v)
    tight ii h (Arg v p) e is = operand (slice_get (node K v).operands p) refl is
      where
        operand : (o : Option Operand) → slice_get (node K v).operands p ≡ o → of_operand A K v o ≡ Some e → 4 * e.source + e.latency ≤ 4 * e.target + ii * e.distance
        operand None q r = absurd (cc)
        operand (Some (Constant w)) q r = absurd (cc)
        operand (Some (DataEdge u d init)) q r =
            let lv = operand_within K v p (DataEdge u d init) q in
            let k =
            steps u v (size K) d ii (latency A (node K u).op) (λ z. good.wired.forward v p u init lv (subst (λ y. HasOperand K v p (DataEdge u y init)) z q)) (good.wired.sources v p u d init lv q) h
            (small (node K u).op)
            in
            let s : record { source = u; target = v; latency = latency A (node K u).op; distance = d } ≡ e = cc in
            subst (λ (z : Edge). 4 * z.source + z.latency ≤ 4 * z.target + ii * z.distance) s k
    tight ii h (Order n) e is = order (slice_get K.order n) refl is
      where
        order : (o : Option OrderEdge) → slice_get K.order n ≡ o → of_order o ≡ Some e → 4 * e.source + e.latency ≤ 4 * e.target + ii * e.distance
        order None q r = absurd (cc)
        order (Some o) q r =
            let k =
            steps o.from o.to (size K) o.distance ii 1 (λ z. good.order.forward n o.from o.to (q ∙ ap (λ y. Some (record { from = o.from; to = o.to; distance = y })) z))
            (good.order.known n o.from o.to o.distance q).0 h (omega arith)
            in
            let s : record { source = o.from; target = o.to; latency = 1; distance = o.distance } ≡ e = cc in
            subst (λ (z : Edge). 4 * z.source + z.latency ≤ 4 * z.target + ii * z.distance) s k

    pub free_at : (ii : ℕ) → 4 * size K ≤ ii → HasNoRecurrence A K ii
    free_at ii h ids c = none_from_tight (edge_of A K) ii (λ v. 4 * v) (tight ii h) ids c

  -- a node with an operation of the set has a unit for it
  pub none_overfull_at : AllOffered A K → (ii : ℕ) → size K ≤ ii → HasNoOverfull A K ii
  none_overfull_at all ii h s over =
      let d = sum_by_total (λ (n : Node). one_if (among s n.op)) K.nodes no_node in
      let e = sum_by_total (λ (u : Unit). one_if (offers_one s u.ops)) A.units no_unit in
      let (v, l, t) = some_one (size K) (λ v. among s (op_at K.nodes v)) (omega arith) in
      let (x, m, o) = unit_for A K all v l in
      let q : one_if (offers_one s (ops_at A.units x)) ≡ 1 = cond-true (offers_one s (ops_at A.units x)) 1 0 (offers_from s (ops_at A.units x) (op_at K.nodes v) t o) in
      let r : total (suc x) (λ y. one_if (offers_one s (ops_at A.units y))) ≤ total (length A.units) (λ y. one_if (offers_one s (ops_at A.units y))) = total_more (suc x) (length A.units) _ m in
      let w : total (size K) (λ v. one_if (among s (op_at K.nodes v))) ≤ size K = few (size K) (λ v. among s (op_at K.nodes v)) in
      let y : ii * 1 ≤ ii * total (length A.units) (λ y. one_if (offers_one s (ops_at A.units y))) = mul-le-mul_left ii (omega arith) in
      let f = ap (λ z. ii * z) e in
      omega arith

  pub overfull_early : AllOffered A K → (ii : ℕ) (s : List Op) → IsOverfull A K ii s → ii < size K
  overfull_early all ii s o = ⊎_elim (λ l. l) (λ l. absurd (none_overfull_at all ii l s o)) (cases_lt ii (size K))
