-- A circulation against times: what its stays come to at least.
use Rattle.std.proofs.Common.{◌≡◌, ℕ, ◌+◌, ◌-◌, ◌*◌, ◌<◌, ◌≤◌, List, [], ◌∷◌, Option, Some, None, refl, ap, subst, arith, ⊎_elim}
use Rattle.std.specs.Prelude.{slice_get}
use Rattle.std.proofs.lemmas.Bool.{cases_lt}
use Rattle.std.proofs.Math.Nat.{mul-le-mul_left}
use Rattle.cg_model.specs.declared.kernel.Operand.{Operand}
use Rattle.cg_model.specs.declared.kernel.Operand.TheVariants.{Const as Constant, Edge}
use Rattle.cg_model.specs.declared.kernel.OrderEdge.{OrderEdge}
use Rattle.cg_model.specs.Kernel.{Kernel, IsKernel, node, size}
use Rattle.cg_model.specs.Array.{Arch}
use Rattle.cg_model.proofs.Mappings.{operand_within}
use Rattle.cg_bound_registers.specs.declared.certificate.Stay.{Stay}
use Rattle.cg_bound_registers.specs.declared.certificate.Pull.{Pull}
use Rattle.cg_bound_registers.specs.declared.certificate.Tie.{Tie}
use Rattle.cg_bound_registers.specs.declared.certificate.Pressure.{Pressure}
use Rattle.cg_recur.specs.Edges.{latency}
use Rattle.cg_bound_registers.specs.Pressure.{Dependence, on_edge, weigh, of_operand, of_order, data_edge, order_edge, stays, pulls, ties, from, into, total, registers, most_latency, gained, lost, IsBalanced, IsExcess}
use Rattle.cg_bound_registers.proofs.Totals.{total_same, total_le, total_sum}
use Rattle.cg_bound_registers.proofs.Weights.{by_node, bound}

module _ (A : Arch) (K : Kernel) (good : IsKernel K) where
  pub known_end : (v p : ℕ) (o : Option Operand) → slice_get (node K v).operands p ≡ o → (a : Dependence) → of_operand v p o ≡ Some a → (a.source < size K) × (a.target < size K)
  known_end v p None e a is = let bad : None ≡ Some a = is in absurd (cc)
  known_end v p (Some (Constant w)) e a is = let bad : None ≡ Some a = is in absurd (cc)
  known_end v p (Some (Edge u d init)) e a is =
      let l = operand_within K v p (Edge u d init) e in
      let s : record { source = u; target = v; arg = p; distance = d } ≡ a = cc in
      subst (λ (z : Dependence). (z.source < size K) × (z.target < size K)) s (good.wired.sources v p u d init l e, l)

  pub known_order : (k : ℕ) (o : Option OrderEdge) → slice_get K.order k ≡ o → (a : Dependence) → of_order o ≡ Some a → (a.source < size K) × (a.target < size K)
  known_order k None e a is = let bad : None ≡ Some a = is in absurd (cc)
  known_order k (Some o) e a is =
      let s : record { source = o.from; target = o.to; arg = 0; distance = o.distance } ≡ a = cc in
      subst (λ (z : Dependence). (z.source < size K) × (z.target < size K)) s (good.order.known k o.from o.to o.distance e)

  -- what times and latencies have to keep
  pub record AreKept (hops : ℕ → ℕ → ℕ) (ii : ℕ) (time lasts : ℕ → ℕ) : Type 0 where
    pub latencies : (w : ℕ) → w < size K → (latency A (node K w).op ≤ lasts w) × (lasts w ≤ most_latency (node K w).op A.units)
    pub edges : (v p : ℕ) (a : Dependence) → data_edge K v p ≡ Some a → time a.source + lasts a.source + hops a.target a.arg ≤ time a.target + ii * a.distance
    pub order : (e : ℕ) (a : Dependence) → order_edge K e ≡ Some a → time a.source + 1 ≤ time a.target + ii * a.distance

  module _ (hops : ℕ → ℕ → ℕ) (ii : ℕ) (time lasts : ℕ → ℕ) (kept : AreKept hops ii time lasts) where
    module _ (P : Pressure) (balanced : IsBalanced K P) where
      abbrev n : ℕ
      n = size K

      abbrev S : (Dependence → ℕ) → ℕ
      S f = stays K P f

      abbrev D : (Dependence → ℕ) → ℕ
      D f = pulls K P f

      abbrev T : (Dependence → ℕ) → ℕ
      T f = ties K P f

      arc_known : (v p : ℕ) (a : Dependence) → data_edge K v p ≡ Some a → (a.source < size K) × (a.target < size K)
      arc_known v p a is = known_end v p (slice_get (node K v).operands p) refl a is

      tie_known : (k : ℕ) (a : Dependence) → order_edge K k ≡ Some a → (a.source < size K) × (a.target < size K)
      tie_known k a is = known_order k (slice_get K.order k) refl a is

      three : (f g h : ℕ → ℕ) → total n (λ w. time w * f w) + total n (λ w. time w * g w) + total n (λ w. time w * h w) ≡ total n (λ w. time w * (f w + g w + h w))
      three f g h =
          let a = total_sum n (λ w. time w * f w) (λ w. time w * g w) in
          let b = total_sum n (λ w. time w * f w + time w * g w) (λ w. time w * h w) in
          let c : total n (λ w. time w * f w + time w * g w + time w * h w) ≡ total n (λ w. time w * (f w + g w + h w)) = total_same n _ _ (λ w l. spread (time w) (f w) (g w) (h w)) in
          omega arith
        where
          spread : (t f g h : ℕ) → t * f + t * g + t * h ≡ t * (f + g + h)
          spread t f g h = omega arith

      -- each node's time is on both sides as often
      pub times_balance : S (λ a. time a.target) + D (λ a. time a.source) + T (λ a. time a.source) ≡ S (λ a. time a.source) + D (λ a. time a.target) + T (λ a. time a.target)
      times_balance =
          let a = by_node n (λ a. a.target) time (λ (s : Stay). 1) (λ s. data_edge K s.node s.arg) P.stays.items (λ s a is. (arc_known s.node s.arg a is).1) in
          let b = by_node n (λ a. a.source) time (λ (x : Pull). x.weight) (λ x. data_edge K x.node x.arg) P.pulls.items (λ x a is. (arc_known x.node x.arg a is).0) in
          let c = by_node n (λ a. a.source) time (λ (x : Tie). x.weight) (λ x. order_edge K x.edge) P.ties.items (λ x a is. (tie_known x.edge a is).0) in
          let d = by_node n (λ a. a.source) time (λ (s : Stay). 1) (λ s. data_edge K s.node s.arg) P.stays.items (λ s a is. (arc_known s.node s.arg a is).0) in
          let e = by_node n (λ a. a.target) time (λ (x : Pull). x.weight) (λ x. data_edge K x.node x.arg) P.pulls.items (λ x a is. (arc_known x.node x.arg a is).1) in
          let f = by_node n (λ a. a.target) time (λ (x : Tie). x.weight) (λ x. order_edge K x.edge) P.ties.items (λ x a is. (tie_known x.edge a is).1) in
          let l = three (λ w. S (into w)) (λ w. D (from w)) (λ w. T (from w)) in
          let r = three (λ w. S (from w)) (λ w. D (into w)) (λ w. T (into w)) in
          let m : total n (λ w. time w * (S (into w) + D (from w) + T (from w))) ≡ total n (λ w. time w * (S (from w) + D (into w) + T (into w))) =
          total_same n _ _ (λ w k. ap (λ z. time w * z) (balanced.circular w k)) in
          omega arith

      -- latencies: what the least and the greatest say
      latencies_balance : S (λ a. lasts a.source) + gained A K P ≤ D (λ a. lasts a.source) + lost A K P
      latencies_balance =
          let a = by_node n (λ a. a.source) lasts (λ (s : Stay). 1) (λ s. data_edge K s.node s.arg) P.stays.items (λ s a is. (arc_known s.node s.arg a is).0) in
          let b = by_node n (λ a. a.source) lasts (λ (x : Pull). x.weight) (λ x. data_edge K x.node x.arg) P.pulls.items (λ x a is. (arc_known x.node x.arg a is).0) in
          let c = total_sum n (λ w. lasts w * S (from w)) (λ w. (D (from w) - S (from w)) * latency A (node K w).op) in
          let d = total_sum n (λ w. lasts w * D (from w)) (λ w. (S (from w) - D (from w)) * most_latency (node K w).op A.units) in
          let e : total n (λ w. lasts w * S (from w) + (D (from w) - S (from w)) * latency A (node K w).op) ≤ total n (λ w. lasts w * D (from w) + (S (from w) - D (from w)) * most_latency (node K w).op A.units) =
          total_le n _ _ (λ w k. let (l, m) = kept.latencies w k in either (lasts w) (latency A (node K w).op) (most_latency (node K w).op A.units) (S (from w)) (D (from w)) l m) in
          omega arith
        where
          more : (L l y k : ℕ) → l ≤ L → L * y + k * l ≤ L * (y + k)
          more L l y k h = let m = mul-le-mul_left {m = l} {n = L} k h in omega arith

          either : (L l m y z : ℕ) → l ≤ L → L ≤ m → L * y + (z - y) * l ≤ L * z + (y - z) * m
          either L l m y z a b =
              ⊎_elim
              (λ (h : y < z). let h' = more L l y (z - y) a in let e : y + (z - y) ≡ z = omega arith in let f = ap (λ q. L * q) e in omega arith)
              (λ (h : z ≤ y). let k = mul-le-mul_left {m = L} {n = m} (y - z) b in let e : z + (y - z) ≡ y = omega arith in let f = ap (λ q. L * q) e in let o : z - y ≡ 0 = omega arith in let o' = ap (λ q. q * l) o in omega arith)
              (cases_lt y z)

      pub no_excess : (N : ℕ) → S (λ a. time a.target) + ii * S (λ a. a.distance) ≤ S (λ a. time a.source) + S (λ a. lasts a.source) + N → N ≤ ii * registers A → IsExcess A K hops ii P → ⊥
      no_excess N a f excess =
          let b = bound (λ (x : Pull). x.weight) (λ x. data_edge K x.node x.arg) (λ a. time a.source) (λ a. lasts a.source) (λ a. hops a.target a.arg) (λ a. time a.target) ii P.pulls.items (λ x a is. kept.edges x.node x.arg a is) in
          let c = bound (λ (x : Tie). x.weight) (λ x. order_edge K x.edge) (λ a. time a.source) (λ a. 1) (λ a. 0) (λ a. time a.target) ii P.ties.items (λ x a is. let h = kept.order x.edge a is in omega arith) in
          let d = times_balance in
          let e = latencies_balance in
          omega arith

      -- stays of at most so long, all together at most the registers times the interval
      pub no_excess_loose : (longest : ℕ → ℕ) → ((v p : ℕ) (a : Dependence) → data_edge K v p ≡ Some a → time a.target + ii * a.distance ≤ time a.source + lasts a.source + longest a.source) →
          total n longest ≤ ii * registers A → IsExcess A K hops ii P → ⊥
      no_excess_loose longest long few =
          let a = by_node n (λ a. a.source) longest (λ (s : Stay). 1) (λ s. data_edge K s.node s.arg) P.stays.items (λ s a is. (arc_known s.node s.arg a is).0) in
          let b : total n (λ w. longest w * S (from w)) ≤ total n longest = total_le n _ longest (λ w l. let m = mul-le-mul_left {m = S (from w)} {n = 1} (longest w) (balanced.one w l) in omega arith) in
          no_excess (S (λ a. longest a.source)) (staying P.stays.items) (omega arith)
        where
          staying : (ss : List Stay) → weigh (λ (s : Stay). 1) (λ s. data_edge K s.node s.arg) (λ a. time a.target) ss + ii * weigh (λ (s : Stay). 1) (λ s. data_edge K s.node s.arg) (λ a. a.distance) ss
              ≤ weigh (λ (s : Stay). 1) (λ s. data_edge K s.node s.arg) (λ a. time a.source) ss + weigh (λ (s : Stay). 1) (λ s. data_edge K s.node s.arg) (λ a. lasts a.source) ss + weigh (λ (s : Stay). 1) (λ s. data_edge K s.node s.arg) (λ a. longest a.source) ss
          staying [] = omega arith
          staying (s ∷ ss) = let h = one (data_edge K s.node s.arg) (λ a is. long s.node s.arg a is) in let r = staying ss in omega arith
            where
              one : (o : Option Dependence) → ((a : Dependence) → o ≡ Some a → time a.target + ii * a.distance ≤ time a.source + lasts a.source + longest a.source) →
                  on_edge (λ a. time a.target) o + ii * on_edge (λ a. a.distance) o ≤ on_edge (λ a. time a.source) o + on_edge (λ a. lasts a.source) o + on_edge (λ a. longest a.source) o
              one None h = omega arith
              one (Some a) h = h a refl
