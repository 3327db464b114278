-- A legal mapping whose values cross at least those registers has no closed chain that is too long for its interval.
use Rattle.std.proofs.Common.{◌≡◌, ℕ, ◌+◌, ◌*◌, ◌≤◌, List, Option, Some, None, refl, subst, arith}
use Rattle.std.specs.Prelude.{slice_get}
use Rattle.cg_word.proofs.Marks.{among_it}
use Rattle.cg_model.specs.declared.kernel.Operand.{Operand}
use Rattle.cg_model.specs.declared.kernel.Operand.TheVariants.{Const as Constant, Edge as DataEdge}
use Rattle.cg_model.specs.declared.kernel.OrderEdge.{OrderEdge}
use Rattle.cg_model.specs.Kernel.{Kernel, HasOperand, IsKernel, node}
use Rattle.cg_model.specs.Array.{Arch, unit}
use Rattle.cg_model.specs.Mapping.{Mapping, place, IsLegal}
use Rattle.cg_model.proofs.Mappings.{operand_within}
use Rattle.cg_recur.specs.declared.edge.Edge.{Edge}
use Rattle.cg_recur.specs.declared.edge.EdgeId.{EdgeId}
use Rattle.cg_recur.specs.declared.edge.EdgeId.TheVariants.{Arg, Order}
use Rattle.cg_recur.specs.Edges.{of_operand, of_order, latency}
use Rattle.cg_recur.specs.Chain.{IsTight}
use Rattle.cg_recur.proofs.Chains.{none_from_tight}
use Rattle.cg_bound_registers.specs.Pressure.{IsKept}
use Rattle.cg_bound_registers.proofs.Latencies.{least_le}
use Rattle.cg_bound_recurrence.specs.WayCycles.{longer, edge_with, IsWayCycle}

module _ (A : Arch) (K : Kernel) (M : Mapping) (hops : ℕ → ℕ → ℕ) (good : IsKernel K) (legal : IsLegal A K M) (kept : IsKept A K M hops) where
  -- what an edge asks of the times of its ends
  abbrev Asks : Edge → Type 0
  Asks e = (place M e.source).time + e.latency ≤ (place M e.target).time + M.ii * e.distance

  data_tight : (v p u d : ℕ) (init : List ℕ) → HasOperand K v p (DataEdge u d init) → (place M u).time + (latency A (node K u).op + hops v p) ≤ (place M v).time + M.ii * d
  data_tight v p u d init h =
      let l = good.wired.sources v p u d init (operand_within K v p (DataEdge u d init) h) h in
      let m = least_le A (node K u).op (place M u).unit _ (legal.units u l) (among_it (unit A (place M u).unit).ops (node K u).op (legal.offered u l)) in
      let k = kept v p u d init h in
      omega arith

  operand : (v p : ℕ) (o : Option Operand) → slice_get (node K v).operands p ≡ o → (e : Edge) → longer (hops v p) (of_operand A K v o) ≡ Some e → Asks e
  operand v p None q e is = let bad : None ≡ Some e = is in absurd (cc)
  operand v p (Some (Constant w)) q e is = let bad : None ≡ Some e = is in absurd (cc)
  operand v p (Some (DataEdge u d init)) q e is =
      let s : record { source = u; target = v; latency = latency A (node K u).op + hops v p; distance = d } ≡ e = cc in
      subst Asks s (data_tight v p u d init q)

  order : (k : ℕ) (o : Option OrderEdge) → slice_get K.order k ≡ o → (e : Edge) → longer 0 (of_order o) ≡ Some e → Asks e
  order k None q e is = let bad : None ≡ Some e = is in absurd (cc)
  order k (Some o) q e is =
      let s : record { source = o.from; target = o.to; latency = 1 + 0; distance = o.distance } ≡ e = cc in
      let h = legal.ordered k o.from o.to o.distance q in
      subst Asks s (omega arith)

  tight : IsTight (edge_with A K hops) M.ii (λ v. (place M v).time)
  tight (Arg v p) e is = operand v p (slice_get (node K v).operands p) refl e is
  tight (Order k) e is = order k (slice_get K.order k) refl e is

pub no_way_cycle : (A : Arch) (K : Kernel) (M : Mapping) (hops : ℕ → ℕ → ℕ) (ids : List EdgeId) → IsKernel K → IsLegal A K M → IsKept A K M hops → IsWayCycle A K hops M.ii ids → ⊥
no_way_cycle A K M hops ids good legal kept c = none_from_tight (edge_with A K hops) M.ii (λ v. (place M v).time) (tight A K M hops good legal kept) ids c
