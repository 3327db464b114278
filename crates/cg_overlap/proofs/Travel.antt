-- A value that its unit gives travels along its routes.
use Rattle.std.proofs.Common.{◌≡◌, ℕ, ◌+◌, ◌*◌, ◌%◌, ◌<◌, List, [], ◌∷◌, Option, Some, None, refl, sym, ap, ◌∙◌, subst, arith, Contains, ⊎_elim}
use Rattle.std.specs.Prelude.{slice_get}
use Rattle.cg_model.specs.Work.{Image}
use Rattle.cg_model.specs.declared.kernel.Operand.{Operand}
use Rattle.cg_model.specs.declared.kernel.Operand.TheVariants.{Const as Constant, Edge}
use Rattle.cg_model.specs.Kernel.{Kernel, HasOperand, node, size}
use Rattle.cg_model.specs.Array.{Arch, IsArch, resource, unit, delay}
use Rattle.cg_model.specs.declared.mapping.Route.{Route}
use Rattle.cg_model.specs.Mapping.{Mapping, Position, place, positions, positions_on, positions_after, of_operand, of_route, leaves, Goes, IsLegal, Carries}
use Rattle.cg_model.specs.Config.{select}
use Rattle.cg_model.specs.Configured.{configuration_of}
use Rattle.cg_model.specs.Machine.{driver, driven, word, result}
use Rattle.cg_overlap.proofs.Facts.{Contains-first, Contains-later, Contains-cases, Contains-flat_map, Contains-flat_map_from, slot_of}
use Rattle.cg_overlap.proofs.Wires.{hop, given, driven_within}
use Rattle.cg_overlap.proofs.Selects.{select_right, chosen}
use Rattle.cg_overlap.proofs.Shape.{routed}
use Rattle.cg_model.proofs.Lookups.{Contains-nil}

pub config_ii : (A : Arch) (K : Kernel) (M : Mapping) → (configuration_of A K M).ii ≡ M.ii
unfolding configuration_of
config_ii A K M = refl

source_after : (A : Arch) (u q t : ℕ) (path : List ℕ) (p : Position) → Contains (positions_after A u q t path) p → p.source ≡ u
source_after A u q t [] p m = absurd (Contains-nil p m)
source_after A u q t (r ∷ path) p m =
    ⊎_elim (λ e. ap (λ z. z.source) (sym e)) (λ l. source_after A u r (t + delay A r) path p l) (Contains-cases p _ (positions_after A u r (t + delay A r) path) m)

source_on : (A : Arch) (u t : ℕ) (path : List ℕ) (p : Position) → Contains (positions_on A u t path) p → p.source ≡ u
source_on A u t [] p m = absurd (Contains-nil p m)
source_on A u t (r ∷ path) p m =
    ⊎_elim (λ e. ap (λ z. z.source) (sym e)) (λ l. source_after A u r t path p l) (Contains-cases p _ (positions_after A u r t path) m)

module _ (A : Arch) (K : Kernel) (M : Mapping) (n : ℕ) (image : Image) (is : IsArch A) (legal : IsLegal A K M) where
  -- one link of a route
  linked : (u q r t i : ℕ) → Contains (resource A r).drivers q → Contains (positions A K M) (record { source = u; resource = r; time = t + delay A r; from = Some q }) →
      word A (configuration_of A K M) n image r (t + delay A r + i * M.ii) ≡ word A (configuration_of A K M) n image q (t + i * M.ii)
  linked u q r t i d m =
      let e : t + delay A r + i * M.ii ≡ delay A r + (t + i * M.ii) = omega arith in
      let right = select_right A K M legal (record { source = u; resource = r; time = t + delay A r; from = Some q }) (t + delay A r + i * M.ii) (driven_within A q r d) m (sym (slot_of _ (t + delay A r) i M.ii refl)) in
      let at : driver (resource A r).drivers (select (configuration_of A K M) r ((delay A r + (t + i * M.ii)) % (configuration_of A K M).ii)) ≡ Some q =
      rw (config_ii A K M, ← e) (ap (driver (resource A r).drivers) right ∙ chosen q (resource A r).drivers d) in
      rw e (hop A (configuration_of A K M) n image is q r (t + i * M.ii) d at)

  -- to the end of a route
  arrives : (path : List ℕ) (u q t r s i x : ℕ) → Goes A q t path r s → ((p : Position) → Contains (positions_after A u q t path) p → Contains (positions A K M) p) →
      word A (configuration_of A K M) n image q (t + i * M.ii) ≡ x → word A (configuration_of A K M) n image r (s + i * M.ii) ≡ x
  arrives [] u q t r s i x (a, b) within h = rw (← a, ← b) h
  arrives (y ∷ path) u q t r s i x (d, on) within h =
      arrives path u y (t + delay A y) r s i x on (λ p m. within p (Contains-later p _ (positions_after A u y (t + delay A y) path) m))
      (linked u q y t i d (within _ (Contains-first _ (positions_after A u y (t + delay A y) path))) ∙ h)

  -- at each position
  passes : (path : List ℕ) (u q t r s i x : ℕ) → Goes A q t path r s → ((p : Position) → Contains (positions_after A u q t path) p → Contains (positions A K M) p) →
      word A (configuration_of A K M) n image q (t + i * M.ii) ≡ x → (p : Position) → Contains (positions_after A u q t path) p → word A (configuration_of A K M) n image p.resource (p.time + i * M.ii) ≡ x
  passes [] u q t r s i x on within h p m = absurd (Contains-nil p m)
  passes (y ∷ path) u q t r s i x (d, on) within h p m =
      let here = linked u q y t i d (within _ (Contains-first _ (positions_after A u y (t + delay A y) path))) ∙ h in
      ⊎_elim (λ e. subst (λ z. word A (configuration_of A K M) n image z.resource (z.time + i * M.ii) ≡ x) e here)
      (λ l. passes path u y (t + delay A y) r s i x on (λ p m. within p (Contains-later p _ (positions_after A u y (t + delay A y) path) m)) here p l)
      (Contains-cases p _ (positions_after A u y (t + delay A y) path) m)

  -- what the unit gives is on its out
  leaves_unit : (u i x : ℕ) → u < size K → result A (configuration_of A K M) n image (place M u).unit ((place M u).time + i * M.ii) ≡ x →
      word A (configuration_of A K M) n image (unit A (place M u).unit).out (leaves A M u + i * M.ii) ≡ x
  leaves_unit u i x l h =
      let e : leaves A M u + i * M.ii ≡ (place M u).time + i * M.ii + (unit A (place M u).unit).latency = omega arith in
      rw e (given A (configuration_of A K M) n image is (place M u).unit ((place M u).time + i * M.ii) (legal.units u l) ∙ h)

  -- the positions of a route that brings a value
  of_route_is : (route : Route) (u d : ℕ) (init : List ℕ) → HasOperand K route.node route.arg (Edge u d init) → of_route A K M route ≡ positions_on A u (leaves A M u) route.path
  of_route_is route u d init o = ap (of_operand A M route.path) o

  within_all : (route : Route) (u d : ℕ) (init rest : List ℕ) → Contains M.routes route → HasOperand K route.node route.arg (Edge u d init) →
      route.path ≡ (unit A (place M u).unit).out ∷ rest → (p : Position) → Contains (positions_on A u (leaves A M u) ((unit A (place M u).unit).out ∷ rest)) p → Contains (positions A K M) p
  unfolding positions
  within_all route u d init rest m o e p h =
      Contains-flat_map (of_route A K M) M.routes route p m (rw (of_route_is route u d init o, e) h)

  -- the consumer's port has the value in its time
  pub brought : (v p u d : ℕ) (init : List ℕ) (i x : ℕ) → v < size K → u < size K → HasOperand K v p (Edge u d init) →
      result A (configuration_of A K M) n image (place M u).unit ((place M u).time + i * M.ii) ≡ x →
      driven (λ q. word A (configuration_of A K M) n image q ((place M v).time + M.ii * d + i * M.ii)) (slice_get (unit A (place M v).unit).ports p) ≡ x
  brought v p u d init i x lv lu o h =
      let (path, m) = routed K M legal.shape v p u d init lv o in
      let (port, at, (rest, e, on)) = legal.brings (record { node = v; arg = p; path = path }) u d init m o in
      ap (driven (λ q. word A (configuration_of A K M) n image q ((place M v).time + M.ii * d + i * M.ii))) at
      ∙ arrives rest u (unit A (place M u).unit).out (leaves A M u) _ _ i x on
      (λ q k. within_all (record { node = v; arg = p; path = path }) u d init rest m o e q (Contains-later q _ (positions_after A u (unit A (place M u).unit).out (leaves A M u) rest) k))
      (leaves_unit u i x lu h)

  -- and each resource that carries it
  carried_on : (u i x : ℕ) (rest : List ℕ) (port time : ℕ) → u < size K → Goes A (unit A (place M u).unit).out (leaves A M u) rest port time →
      ((p : Position) → Contains (positions_on A u (leaves A M u) ((unit A (place M u).unit).out ∷ rest)) p → Contains (positions A K M) p) →
      result A (configuration_of A K M) n image (place M u).unit ((place M u).time + i * M.ii) ≡ x →
      (p : Position) → Contains (positions_on A u (leaves A M u) ((unit A (place M u).unit).out ∷ rest)) p → word A (configuration_of A K M) n image p.resource (p.time + i * M.ii) ≡ x
  carried_on u i x rest port time l on within h p m =
      let start = leaves_unit u i x l h in
      ⊎_elim (λ e. subst (λ z. word A (configuration_of A K M) n image z.resource (z.time + i * M.ii) ≡ x) e start)
      (λ k. passes rest u (unit A (place M u).unit).out (leaves A M u) port time i x on (λ q y. within q (Contains-later q _ (positions_after A u (unit A (place M u).unit).out (leaves A M u) rest) y)) start p k)
      (Contains-cases p _ (positions_after A u (unit A (place M u).unit).out (leaves A M u) rest) m)

  carried_by : (route : Route) (o : Option Operand) (x : ℕ → ℕ) (i : ℕ) → Contains M.routes route → slice_get (node K route.node).operands route.arg ≡ o →
      ((u : ℕ) → u < size K → result A (configuration_of A K M) n image (place M u).unit ((place M u).time + i * M.ii) ≡ x u) →
      ((u d : ℕ) (init : List ℕ) → o ≡ Some (Edge u d init) → u < size K) →
      (p : Position) → Contains (of_operand A M route.path o) p → word A (configuration_of A K M) n image p.resource (p.time + i * M.ii) ≡ x p.source
  carried_by route None x i m e h k p c = absurd (Contains-nil p c)
  carried_by route (Some (Constant w)) x i m e h k p c = absurd (Contains-nil p c)
  carried_by route (Some (Edge u d init)) x i m e h k p c =
      let (port, at, (rest, path, on)) = legal.brings route u d init m e in
      let c' : Contains (positions_on A u (leaves A M u) ((unit A (place M u).unit).out ∷ rest)) p = rw path at c in
      carried_on u i (x u) rest _ _ (k u d init refl) on (within_all route u d init rest m e path) (h u (k u d init refl)) p c'
      ∙ ap x (sym (source_on A u (leaves A M u) ((unit A (place M u).unit).out ∷ rest) p c'))

  pub carried : ((v p u d : ℕ) (init : List ℕ) → HasOperand K v p (Edge u d init) → u < size K) → (x : ℕ → ℕ → ℕ) (r c v i : ℕ) →
      ((u : ℕ) → u < size K → result A (configuration_of A K M) n image (place M u).unit ((place M u).time + i * M.ii) ≡ x u i) →
      Carries A K M r c v i → word A (configuration_of A K M) n image r c ≡ x v i
  unfolding positions
  carried sources x r c v i h (p, m, pv, pr, pc) =
      let (route, mr, mp) = Contains-flat_map_from (of_route A K M) M.routes p m in
      rw (pc, ← pr, ← pv) (carried_by route (slice_get (node K route.node).operands route.arg) (λ u. x u i) i mr refl h (λ u d init o. sources route.node route.arg u d init o) p mp)
