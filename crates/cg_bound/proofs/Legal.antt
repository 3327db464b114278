-- A legal mapping leaves no recurrence and no overfull set at its interval.
use Rattle.std.proofs.Common.{◌≡◌, ℕ, zero, suc, ◌+◌, ◌*◌, ◌%◌, ◌<◌, ◌≤◌, List, [], ◌∷◌, length, cond, eqb, Bool, true, false, Option, Some, None, refl, sym, ap, ◌∙◌, subst, arith, ⊎_elim, eqb-true}
use Rattle.std.specs.Prelude.{slice_get, slice_index_or, unwrap_or}
use Rattle.std.proofs.lemmas.Bool.{cases_eq, cases_Bool}
use Rattle.cg_word.specs.declared.op.Op.{Op}
use Rattle.cg_word.specs.Sets.{among}
use Rattle.cg_word.proofs.Marks.{among_it}
use Rattle.cg_model.specs.declared.kernel.Node.{Node}
use Rattle.cg_model.specs.declared.kernel.Operand.{Operand}
use Rattle.cg_model.specs.declared.kernel.Operand.TheVariants.{Const as Constant, Edge as DataEdge}
use Rattle.cg_model.specs.declared.kernel.OrderEdge.{OrderEdge}
use Rattle.cg_model.specs.declared.array.Unit.{Unit}
use Rattle.cg_model.specs.Kernel.{Kernel, HasOperand, IsKernel, size, node, no_node}
use Rattle.cg_model.specs.Array.{Arch, delay}
use Rattle.cg_model.specs.Mapping.{Mapping, place, Goes, IsLegal}
use Rattle.cg_recur.specs.declared.edge.Edge.{Edge}
use Rattle.cg_recur.specs.declared.edge.EdgeId.{EdgeId}
use Rattle.cg_recur.specs.declared.edge.EdgeId.TheVariants.{Arg, Order}
use Rattle.cg_recur.specs.Edges.{edge_of, of_operand, of_order, lesser, least_latency, latency}
use Rattle.cg_recur.specs.Chain.{IsTight}
use Rattle.cg_recur.specs.Recurrences.{IsRecurrence}
use Rattle.cg_recur.proofs.Chains.{none_from_tight}
use Rattle.cg_class.specs.Class.{IsOverfull, offers_one}
use Rattle.cg_class.specs.Search.{op_at, ops_at, no_unit}
use Rattle.cg_class.proofs.Totals.{total_le, by_place, sum_by_total}
use Rattle.cg_class.proofs.Balance.{one_if, on, at_most}
use Rattle.cg_class.proofs.Sets.{offers_from}
use Rattle.cg_overlap.proofs.Shape.{routed}
use Rattle.cg_bound.specs.Bound.{IsForbidden}
use Rattle.cg_model.proofs.Sums.{total, total_zero}
use Rattle.cg_model.proofs.Mappings.{operand_within}
use Rattle.cg_recur.proofs.Latencies.{lesser_below}

-- time does not fall along a path
goes_up : (A : Arch) (path : List ℕ) (q t r s : ℕ) → Goes A q t path r s → t ≤ s
goes_up A [] q t r s (e, f) = omega arith
goes_up A (x ∷ path) q t r s (c, g) = let h = goes_up A path x (t + delay A x) r s g in omega arith

lesser_rest : (l m : ℕ) (o : Option ℕ) → (x : ℕ) × (o ≡ Some x) × (x ≤ m) → lesser l o ≤ m
lesser_rest l m None (x, e, h) = absurd (cc)
lesser_rest l m (Some y) (x, e, h) = let f : y ≡ x = cc in omega arith

-- the least latency is at most that of a unit that offers the operation
least_below : (op : Op) (us : List Unit) (x : ℕ) (d : Unit) → x < length us → among (slice_index_or us x d).ops op ≡ true → (y : ℕ) × (least_latency op us ≡ Some y) × (y ≤ (slice_index_or us x d).latency)
unfolding least_latency
least_below op [] x d l h = absurd (omega arith)
least_below op (u ∷ us) zero d l h =
    let rest = least_latency op us in (lesser u.latency rest, ap (λ b. cond b (Some (lesser u.latency rest)) rest) h, lesser_below u.latency rest)
least_below op (u ∷ us) (suc x) d l h =
    let rest = least_latency op us in
    let (y, e, m) = least_below op us x d (omega arith) h in
    ⊎_elim
    (λ t. (lesser u.latency rest, ap (λ b. cond b (Some (lesser u.latency rest)) rest) t, lesser_rest u.latency (slice_index_or us x d).latency rest (y, e, m)))
    (λ t. (y, ap (λ b. cond b (Some (lesser u.latency rest)) rest) t ∙ e, m))
    (cases_Bool (among u.ops op))

-- a sum of which at most one part is not 0, and none above 1
at_most_one : (n : ℕ) (f : ℕ → ℕ) → ((k : ℕ) → k < n → f k ≤ 1) → ((j k : ℕ) → j < n → k < n → (f j ≡ 0 → ⊥) → (f k ≡ 0 → ⊥) → j ≡ k) → total n f ≤ 1
at_most_one zero f h g = omega arith
at_most_one (suc n) f h g =
    ⊎_elim
    (λ (e : f n ≡ 0). omega (arith, at_most_one n f (λ k l. h k (omega arith)) (λ j k l m. g j k (omega arith) (omega arith))))
    (λ ne.
    let z = total_zero n f (λ k l. ⊎_elim (λ (e : f k ≡ 0). e) (λ me. absurd (let q = g k n (omega arith) (omega arith) me ne in omega arith)) (cases_eq (f k) 0)) in
    omega (arith, z, h n (omega arith)))
    (cases_eq (f n) 0)

total_ones : (n : ℕ) → total n (λ k. 1) ≡ n
total_ones zero = refl
total_ones (suc n) = omega (arith, total_ones n)

-- what stands in different slots of a place
slots : (N ii : ℕ) (place slot : ℕ → ℕ) (x : ℕ) → ((v : ℕ) → v < N → slot v < ii) → ((v w : ℕ) → v < N → w < N → place v ≡ x → place w ≡ x → slot v ≡ slot w → v ≡ w) → on N place x ≤ ii
slots N ii place slot x within apart =
    let a = by_place N ii slot (λ v. one_if (eqb (place v) x)) within in
    let b : total ii (λ t. total N (λ v. cond (eqb (slot v) t) (one_if (eqb (place v) x)) 0)) ≤ total ii (λ t. 1) =
    total_le ii _ _
    (λ t l. at_most_one N (λ v. cond (eqb (slot v) t) (one_if (eqb (place v) x)) 0) (λ v m. small (eqb (slot v) t) (eqb (place v) x))
    (λ v w m n p q. let (c, d) = both v t p in let (e, f) = both w t q in apart v w m n d f (c ∙ sym e)))
    in
    let c = total_ones ii in
    omega arith
  where
    small : (b c : Bool) → cond b (one_if c) 0 ≤ 1
    small true true = omega arith
    small true false = omega arith
    small false c = omega arith

    both_by : (b c : Bool) → (cond b (one_if c) 0 ≡ 0 → ⊥) → (b ≡ true) × (c ≡ true)
    both_by true true h = (refl, refl)
    both_by true false h = absurd (h refl)
    both_by false c h = absurd (h refl)

    both : (v t : ℕ) → (cond (eqb (slot v) t) (one_if (eqb (place v) x)) 0 ≡ 0 → ⊥) → (slot v ≡ t) × (place v ≡ x)
    both v t h = let (a, b) = both_by (eqb (slot v) t) (eqb (place v) x) h in (eqb-true (slot v) t a, eqb-true (place v) x b)

module _ (A : Arch) (K : Kernel) (M : Mapping) (good : IsKernel K) (legal : IsLegal A K M) where
  data_tight : (v p u d : ℕ) (init : List ℕ) → HasOperand K v p (DataEdge u d init) → (place M u).time + latency A (node K u).op ≤ (place M v).time + M.ii * d
  data_tight v p u d init h =
      let lv = operand_within K v p (DataEdge u d init) h in
      let lu = good.wired.sources v p u d init lv h in
      let (path, has) = routed K M legal.shape v p u d init lv h in
      let (port, is, (rest, e, g)) = legal.brings (record { node = v; arg = p; path = path }) u d init has h in
      let up = goes_up A rest _ _ _ _ g in
      let (y, f, n) = least_below (node K u).op A.units (place M u).unit _ (legal.units u lu) (among_it _ _ (legal.offered u lu)) in
      let q = ap (λ z. unwrap_or z 1) f in
      omega arith

  tight : IsTight (edge_of A K) M.ii (λ v. (place M v).time)
  tight (Arg v p) e is = operand (slice_get (node K v).operands p) refl is
    where
      operand : (o : Option Operand) → slice_get (node K v).operands p ≡ o → of_operand A K v o ≡ Some e → (place M e.source).time + e.latency ≤ (place M e.target).time + M.ii * e.distance
      operand None q r = absurd (cc)
      operand (Some (Constant w)) q r = absurd (cc)
      operand (Some (DataEdge u d init)) q r =
          let h = data_tight v p u d init q in
          let s : record { source = u; target = v; latency = latency A (node K u).op; distance = d } ≡ e = cc in
          subst (λ (z : Edge). (place M z.source).time + z.latency ≤ (place M z.target).time + M.ii * z.distance) s h
  tight (Order k) e is = order (slice_get K.order k) refl is
    where
      order : (o : Option OrderEdge) → slice_get K.order k ≡ o → of_order o ≡ Some e → (place M e.source).time + e.latency ≤ (place M e.target).time + M.ii * e.distance
      order None q r = absurd (cc)
      order (Some o) q r =
          let h = legal.ordered k o.from o.to o.distance q in
          let s : record { source = o.from; target = o.to; latency = 1; distance = o.distance } ≡ e = cc in
          subst (λ (z : Edge). (place M z.source).time + z.latency ≤ (place M z.target).time + M.ii * z.distance) s h

  no_recurrence : (ids : List EdgeId) → IsRecurrence A K M.ii ids → ⊥
  no_recurrence ids c = none_from_tight (edge_of A K) M.ii (λ v. (place M v).time) tight ids c

  no_overfull : (s : List Op) → IsOverfull A K M.ii s → ⊥
  no_overfull s over =
      let h = at_most (size K) (length A.units) M.ii (λ v. (place M v).unit) (λ v. among s (op_at K.nodes v)) (λ x. offers_one s (ops_at A.units x)) legal.units
      (λ x l. slots (size K) M.ii (λ v. (place M v).unit) (λ v. (place M v).time % M.ii) x (λ v m. let p = legal.interval in omega arith)
      (λ v w lv lw a b c. legal.apart v w lv lw (a ∙ sym b) c))
      (λ v l t. offers_from s (ops_at A.units (place M v).unit) (op_at K.nodes v) t (among_it _ _ (legal.offered v l)))
      in
      let d = sum_by_total (λ (n : Node). one_if (among s n.op)) K.nodes no_node in
      let e = sum_by_total (λ (u : Unit). one_if (offers_one s u.ops)) A.units no_unit in
      let f = ap (λ z. M.ii * z) e in
      omega arith

  -- no legal mapping has a forbidden interval
  pub not_forbidden : IsForbidden A K M.ii → ⊥
  not_forbidden f = ⊎_elim (λ (ids, c). no_recurrence ids c) (λ (s, o). no_overfull s o) f

pub excluded : (A : Arch) (K : Kernel) (ii : ℕ) → IsKernel K → IsForbidden A K ii → (M : Mapping) → M.ii ≡ ii → IsLegal A K M → ⊥
excluded A K ii good f M e legal = not_forbidden A K M good legal (subst (IsForbidden A K) (sym e) f)
