-- What is ordered begins in rising cycles.
use Rattle.std.proofs.Common.{◌≡◌, ℕ, ◌+◌, ◌-◌, ◌*◌, ◌<◌, ◌≤◌, List, arith, inl, inr}
use Rattle.std.proofs.Math.Nat.{mul-lt-mul_of_pos_right}
use Rattle.cg_model.specs.declared.kernel.Operand.TheVariants.{Edge}
use Rattle.cg_model.specs.Kernel.{Kernel, HasOperand, IsKernel, size}
use Rattle.cg_model.specs.Order.{Links, by_data, by_order, Chain, one, more, IsOrdered}
use Rattle.cg_model.specs.Array.{Arch, IsArch, unit}
use Rattle.cg_model.specs.Mapping.{Mapping, place, leaves, IsLegal}
use Rattle.cg_overlap.proofs.Shape.{routed}
use Rattle.cg_model.proofs.Mappings.{goes_on}

rises_by : (s t ii d i e : ℕ) → s + 1 ≤ t + ii * d → s + i * ii < t + (i + d + e) * ii
rises_by s t ii d i e h = omega arith

module _ (A : Arch) (K : Kernel) (M : Mapping) (is : IsArch A) (good : IsKernel K) (legal : IsLegal A K M) where
  data_rises : (v p u d : ℕ) (init : List ℕ) → v < size K → HasOperand K v p (Edge u d init) → (place M u).time + 1 ≤ (place M v).time + M.ii * d
  data_rises v p u d init l o =
      let (path, m) = routed K M legal.shape v p u d init l o in
      let (port, at, (rest, e, on)) = legal.brings (record { node = v; arg = p; path = path }) u d init m o in
      let up : leaves A M u ≤ (place M v).time + M.ii * d = goes_on A (unit A (place M u).unit).out (leaves A M u) rest _ _ on in
      let lat = (is.latencies (place M u).unit (legal.units u (good.wired.sources v p u d init l o))).0 in
      omega arith

  link_rises : (u v d : ℕ) → Links K u v d → (place M u).time + 1 ≤ (place M v).time + M.ii * d
  link_rises u v d (by_data p init l o) = data_rises v p u d init l o
  link_rises u v d (by_order e h) = legal.ordered e u v d h

  chain_rises : (u v d : ℕ) → Chain K u v d → (place M u).time + 1 ≤ (place M v).time + M.ii * d
  chain_rises u v d (one l) = link_rises u v d l
  chain_rises u w x (more {v = v} {d = d} {e = e} l c) = omega (arith, link_rises u v d l, chain_rises v w e c)

  pub source_before : (v p u d : ℕ) (init : List ℕ) (i : ℕ) → v < size K → HasOperand K v p (Edge u d init) → d ≤ i → (place M u).time + (i - d) * M.ii < (place M v).time + i * M.ii
  source_before v p u d init i l o h =
      let z : i ≡ i - d + d = omega arith in
      let g : (place M u).time + (i - d) * M.ii < (place M v).time + (i - d + d) * M.ii = omega (arith, data_rises v p u d init l o) in
      rw (← z) at g

  pub ordered_rises : (u i v j : ℕ) → IsOrdered K u i v j → (place M u).time + i * M.ii < (place M v).time + j * M.ii
  ordered_rises u i v j (inl (e, l)) = let m = mul-lt-mul_of_pos_right l legal.interval in rw e (omega arith)
  ordered_rises u i v j (inr (d, c, l)) =
      let up = chain_rises u v d c in
      let z : j ≡ i + d + (j - (i + d)) = omega arith in
      let g = rises_by (place M u).time (place M v).time M.ii d i (j - (i + d)) up in
      rw (← z) at g
