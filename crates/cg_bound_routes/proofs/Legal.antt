-- A legal mapping has a way for each edge, and time for the registers on the shortest one.
use Rattle.std.proofs.Common.{◌≡◌, ℕ, ◌+◌, ◌*◌, ◌%◌, ◌<◌, ◌≤◌, List, refl, sym, ap, ◌∙◌, subst, arith}
use Rattle.std.specs.Prelude.{Option, Some, None, unwrap_or}
use Rattle.cg_model.specs.declared.kernel.Operand.TheVariants.{Edge}
use Rattle.cg_model.specs.Kernel.{Kernel, IsKernel, HasOperand, size}
use Rattle.cg_model.specs.Array.{Arch, unit}
use Rattle.cg_model.specs.Mapping.{Mapping, IsLegal, Goes, leaves, place}
use Rattle.cg_model.proofs.Mappings.{operand_within}
use Rattle.cg_overlap.proofs.Shape.{routed}
use Rattle.cg_bound_routes.specs.Ways.{HasWay, AreLeastHops, hops_of, AreWays, KeepsHops, KeepsWays}
use Rattle.cg_bound_routes.proofs.Paths.{goes_earlier}

-- the least number is at most that of any way
at_most : (A : Arch) (K : Kernel) (ii v p n : ℕ) (hops : Option ℕ) → HasWay A K ii v p n → AreLeastHops A K ii v p hops → (m : ℕ) × (hops ≡ Some m) × (m ≤ n)
at_most A K ii v p n None way is = absurd (is n way)
at_most A K ii v p n (Some m) way (has, low) = (m, refl, low n way)

module _ (A : Arch) (K : Kernel) (M : Mapping) (good : IsKernel K) (legal : IsLegal A K M) where
  -- at interval 1 nodes on one unit are one node
  apart : (u v : ℕ) → u < size K → v < size K → M.ii ≡ 1 → (place M u).unit ≡ (place M v).unit → u ≡ v
  apart u v lu lv one e =
      let slot : (t : ℕ) → t % M.ii ≡ 0 = λ t. let some = legal.interval in omega arith in
      legal.apart u v lu lv e (slot (place M u).time ∙ sym (slot (place M v).time))

  -- the way of an edge's route
  way_of : (v p u d : ℕ) (init : List ℕ) → HasOperand K v p (Edge u d init) → (n : ℕ) × (n + leaves A M u ≡ (place M v).time + M.ii * d) × HasWay A K M.ii v p n
  way_of v p u d init h =
      let lv = operand_within K v p (Edge u d init) h in
      let lu = good.wired.sources v p u d init lv h in
      let (path, has) = routed K M legal.shape v p u d init lv h in
      let (port, at, (rest, e, g)) = legal.brings (record { node = v; arg = p; path = path }) u d init has h in
      let begin : leaves A M u ≡ 0 + leaves A M u = omega arith in
      let (n, f, g') = goes_earlier A (leaves A M u) rest (unit A (place M u).unit).out 0 port ((place M v).time + M.ii * d)
      (subst (λ z. Goes A (unit A (place M u).unit).out z rest port ((place M v).time + M.ii * d)) begin g) in (
        n,
        f,
        (
          u,
          d,
          init,
          h,
          (place M u).unit,
          (place M v).unit,
          record { source = (legal.units u lu, legal.offered u lu); target = (legal.units v lv, legal.offered v lv); one = λ e. ap (λ z. (place M z).unit) e; apart = λ one e. apart u v lu lv one e },
          (port, at, (rest, g')),
        ),
      )

  pub keeps_hops : KeepsHops A K M
  keeps_hops v p u d init hops h is =
      let (n, f, way) = way_of v p u d init h in
      let (m, e, le) = at_most A K M.ii v p n hops way is in
      (m, e, omega arith)

  pub no_way : (v p u d : ℕ) (init : List ℕ) → HasOperand K v p (Edge u d init) → AreLeastHops A K M.ii v p None → ⊥
  no_way v p u d init h is = let (m, e, le) = keeps_hops v p u d init None h is in absurd (cc)

  pub kept : (rows : List (List (Option ℕ))) → AreWays A K M.ii rows → KeepsWays A K M rows
  kept rows ways v p u d init h =
      let (m, e, le) = keeps_hops v p u d init (hops_of rows v p) h (ways v p) in
      let hops : unwrap_or (hops_of rows v p) 0 ≡ m = ap (λ z. unwrap_or z 0) e in
      omega arith
