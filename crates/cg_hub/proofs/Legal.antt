-- The hub's mapping is legal.
use Rattle.std.proofs.Common.{◌≡◌, ℕ, zero, suc, ◌+◌, ◌-◌, ◌*◌, ◌/◌, ◌%◌, ◌<◌, ◌≤◌, List, [], ◌∷◌, ◌++◌, length, Some, None, refl, sym, ap, ap₂, ◌∙◌, subst, subst₂, arith, Contains, ⊎_elim}
use Rattle.std.specs.Prelude.{map, slice_get}
use Rattle.std.specs.List.{range_with_len}
use Rattle.std.proofs.lemmas.List.FromFn.{get_or-map-range_with_len}
use Rattle.std.proofs.lemmas.List.Elements.{Contains-append_cases}
use Rattle.std.proofs.lemmas.Option.{slice_get-get_or}
use Rattle.std.proofs.Math.Nat.{mod-eq_of_lt}
use Rattle.cg_model.specs.declared.kernel.Operand.{Operand}
use Rattle.cg_model.specs.declared.kernel.Operand.TheVariants.{Const as Constant, Edge}
use Rattle.cg_model.specs.Kernel.{Kernel, IsKernel, HasOperand, HasOrder, size, node}
use Rattle.cg_model.specs.declared.array.Kind.{Kind}
use Rattle.cg_model.specs.declared.array.Kind.TheVariants.{Out, Register, Port}
use Rattle.cg_model.specs.Array.{Arch, IsArch, resource, unit, port, owner, delay, delay_by}
use Rattle.cg_model.specs.declared.mapping.Route.{Route}
use Rattle.cg_model.specs.Mapping.{Position, IsLegal, Goes, Brings, place, positions, positions_on, positions_after, of_operand, of_route, leaves}
use Rattle.cg_overlap.proofs.Facts.{slot_of, Contains-cases, Contains-flat_map_from}
use Rattle.cg_hub.specs.Hub.{HubEnough, registers, registers_before, host, start, hub_leaves, hub_at, hub_path, hub_route, hub_routes_to, hub_routes, hub_place, hub_map}
use Rattle.cg_hub.proofs.Numbers.{one_slot, one_run}
use Rattle.cg_hub.proofs.Owned.{registers_once}
use Rattle.cg_hub.proofs.Times.{start_rises, start_once, host_within, host_offers, soon, register_within, source_within, in_time, held, has_port}
use Rattle.cg_hub.proofs.Shape.{shaped}
use Rattle.cg_hub.proofs.Ways.{goes, stays, staying, ending}
use Rattle.cg_model.proofs.Ranges.{Contains-range}
use Rattle.cg_model.proofs.Lookups.{Contains-nil}
use Rattle.cg_model.proofs.Mappings.{operand_within}

-- the routes of a node's operands
abbrev Serves : Arch → Kernel → ℕ → ℕ → ℕ → List Operand → Route → Type 0
Serves A K ii v k os r = (p u d : ℕ) × (init : List ℕ) × (slice_get os p ≡ Some (Edge u d init)) × (r ≡ record { node = v; arg = k + p; path = hub_path A K ii v (k + p) u d })

route_head : (A : Arch) (K : Kernel) (ii v k : ℕ) (o : Operand) (os : List Operand) (r : Route) → Contains (hub_route A K ii v k o) r → Serves A K ii v k (o ∷ os) r
route_head A K ii v k (Constant w) os r m = absurd (Contains-nil r m)
route_head A K ii v k (Edge u d init) os r m =
    let z : k + 0 ≡ k = omega arith in
    (0, u, d, init, refl, ⊎_elim (λ e. rw z (sym e)) (λ h. absurd (Contains-nil r h)) (Contains-cases r _ [] m))

route_from : (A : Arch) (K : Kernel) (ii v k : ℕ) (os : List Operand) (r : Route) → Contains (hub_routes_to A K ii v k os) r → Serves A K ii v k os r
route_from A K ii v k [] r m = absurd (Contains-nil r m)
route_from A K ii v k (o ∷ os) r m =
    ⊎_elim (λ h. route_head A K ii v k o os r h)
    (λ h. let (p, u, d, init, e, f) = route_from A K ii v (suc k) os r h in
    let z : suc k + p ≡ k + suc p = omega arith in (suc p, u, d, init, e, rw z at f))
    (Contains-append_cases (hub_route A K ii v k o) (hub_routes_to A K ii v (suc k) os) r m)

module _ (A : Arch) (K : Kernel) (ii : ℕ) where
  placed : (v : ℕ) → v < size K → place (hub_map A K ii) v ≡ hub_place A K v
  unfolding hub_map
  placed v l = get_or-map-range_with_len (hub_place A K) 0 (size K) v v (record { unit = 0; time = 0 }) l (omega arith)

  interval_is : (hub_map A K ii).ii ≡ ii
  unfolding hub_map
  interval_is = refl

  route_of : (r : Route) → Contains (hub_map A K ii).routes r →
      (v p u d : ℕ) × (init : List ℕ) × (v < size K) × HasOperand K v p (Edge u d init) × (r ≡ record { node = v; arg = p; path = hub_path A K ii v p u d })
  unfolding hub_map
  route_of r m =
      let (v, l, h) = Contains-flat_map_from (hub_routes A K ii) (range_with_len 0 (size K)) r m in
      let (p, u, d, init, e, f) = route_from A K ii v 0 (node K v).operands r h in
      let z : 0 + p ≡ p = omega arith in
      (v, p, u, d, init, Contains-range (size K) v l, e, rw z at f)

  leaves_is : (u : ℕ) → u < size K → leaves A (hub_map A K ii) u ≡ hub_leaves A K u
  leaves_is u l = rw (placed u l) refl

-- the three kinds of positions
abbrev out_of : Arch → Kernel → ℕ → ℕ
out_of A K u = (unit A (host A K u)).out

abbrev leaving : Arch → Kernel → ℕ → Position
leaving A K u = record { source = u; resource = out_of A K u; time = hub_leaves A K u; from = None }

abbrev kept : Arch → Kernel → ℕ → ℕ → ℕ → Position
kept A K ii u k = staying (hub_at A K ii u) u (out_of A K u) (hub_leaves A K u) k

abbrev coming : Arch → Kernel → ℕ → ℕ → ℕ → ℕ → ℕ → Position
coming A K ii v p u d = ending (hub_at A K ii u) u (out_of A K u) (hub_leaves A K u) (port A (host A K v) p) (start A K v + ii * d - hub_leaves A K u)

data Stands (A : Arch) (K : Kernel) (ii : ℕ) (p : Position) : Type 0 where
  begins : (u : ℕ) → u < size K → p ≡ leaving A K u → Stands A K ii p
  waits : (u k : ℕ) → u < size K → k / ii < registers K u → p ≡ kept A K ii u k → Stands A K ii p
  ends : (v q u d : ℕ) (init : List ℕ) → v < size K → HasOperand K v q (Edge u d init) → p ≡ coming A K ii v q u d → Stands A K ii p

now_by : (k : Kind) → k ≡ Port → delay_by k ≡ 0
now_by k e = rw e refl

slow_by : (k : Kind) → k ≡ Register → delay_by k ≡ 1
slow_by k e = rw e refl

module _ (A : Arch) (K : Kernel) (ii : ℕ) (is : IsArch A) (good : IsKernel K) (enough : HubEnough A K ii) where
  port_now : (v p : ℕ) (o : Operand) → HasOperand K v p o → delay A (port A (host A K v) p) ≡ 0
  port_now v p o h = now_by _ (is.ports (host A K v) p (host_within A K ii enough v (operand_within K v p o h)) (has_port A K ii is good enough v p o h))

  at_within : (u k : ℕ) → u < size K → k / ii < registers K u → registers_before K u + k / ii < length A.hub
  at_within u k l h = register_within A K ii enough u (k / ii) l h

  at_slow : (u k : ℕ) → u < size K → k / ii < registers K u → delay A (hub_at A K ii u k) ≡ 1
  at_slow u k l h = slow_by _ (is.hub.registers (registers_before K u + k / ii) (at_within u k l h))

  -- each route brings its value to its port in time
  brought : (v p u d : ℕ) (init : List ℕ) → HasOperand K v p (Edge u d init) →
      Goes A (out_of A K u) (hub_leaves A K u) (map (hub_at A K ii u) (range_with_len 0 (start A K v + ii * d - hub_leaves A K u)) ++ port A (host A K v) p ∷ [])
      (port A (host A K v) p) (start A K v + ii * d)
  brought v p u d init o =
      let n = start A K v + ii * d - hub_leaves A K u in
      let lu = source_within A K ii is good enough v p u d init o in
      let lv = operand_within K v p (Edge u d init) o in
      let early = in_time A K ii is good enough v p u d init o in
      let h = λ (j : ℕ) (l : j < 0 + n). held A K ii is good enough v p u d init j o (omega arith) in
      let within = λ (j : ℕ) (l : j < 0 + n). at_within u j lu (h j l) in
      let hp = has_port A K ii is good enough v p (Edge u d init) o in
      goes A (hub_at A K ii u) (port A (host A K v) p) n 0 (out_of A K u) (hub_leaves A K u) (start A K v + ii * d)
      (λ j a l. at_slow u j lu (h j l))
      (port_now v p (Edge u d init) o)
      (λ j a l. is.hub.from_units _ _ (within j l) (host_within A K ii enough u lu))
      (λ z. absurd (omega arith))
      (λ i j a b c l. is.hub.from_hub _ _ (within i b) (within j l))
      (λ j a l. is.hub.to_ports _ _ p (within j l) (host_within A K ii enough v lv) hp)
      (omega arith)

  of_route_is : (v p u d : ℕ) (init : List ℕ) (r : Route) → HasOperand K v p (Edge u d init) → r ≡ record { node = v; arg = p; path = hub_path A K ii v p u d } →
      of_route A K (hub_map A K ii) r ≡ positions_on A u (hub_leaves A K u) (hub_path A K ii v p u d)
  of_route_is v p u d init r o e =
      ap (of_route A K (hub_map A K ii)) e ∙ ap (of_operand A (hub_map A K ii) (hub_path A K ii v p u d)) o
      ∙ ap (λ t. positions_on A u t (hub_path A K ii v p u d)) (leaves_is A K ii u (source_within A K ii is good enough v p u d init o))

  stands : (p : Position) → Contains (positions A K (hub_map A K ii)) p → Stands A K ii p
  unfolding positions
  stands p m =
      let (r, mr, mp) = Contains-flat_map_from (of_route A K (hub_map A K ii)) (hub_map A K ii).routes p m in
      let (v, q, u, d, init, lv, o, e) = route_of A K ii r mr in
      let n = start A K v + ii * d - hub_leaves A K u in
      let lu = source_within A K ii is good enough v q u d init o in
      let h : Contains (positions_on A u (hub_leaves A K u) (hub_path A K ii v q u d)) p = rw (of_route_is v q u d init r o e) at mp in
      ⊎_elim (λ f. begins u lu (sym f))
      (λ l. ⊎_elim
      (λ w. waits u w.0 lu (held A K ii is good enough v q u d init w.0 o (let b = w.2 in omega arith)) w.3)
      (λ f. ends v q u d init lv o (let z : 0 + n ≡ n = omega arith in rw z at f))
      (stays A (hub_at A K ii u) u (out_of A K u) (hub_leaves A K u) (port A (host A K v) q) (port_now v q (Edge u d init) o) n 0 (out_of A K u) (hub_leaves A K u) p
      (λ j a b. at_slow u j lu (held A K ii is good enough v q u d init j o (omega arith))) (omega arith) refl l))
      (Contains-cases p _ (positions_after A u (out_of A K u) (hub_leaves A K u) (map (hub_at A K ii u) (range_with_len 0 n) ++ port A (host A K v) q ∷ [])) h)

  -- no two kinds meet
  differ : (r s : ℕ) (a b : Kind) → (resource A r).kind ≡ a → (resource A s).kind ≡ b → r ≡ s → a ≡ b
  differ r s a b e f g = sym e ∙ ap (λ z. (resource A z).kind) g ∙ f

  out_kind : (u : ℕ) → u < size K → (resource A (out_of A K u)).kind ≡ Out
  out_kind u l = is.outs (host A K u) (host_within A K ii enough u l)

  at_kind : (u k : ℕ) → u < size K → k / ii < registers K u → (resource A (hub_at A K ii u k)).kind ≡ Register
  at_kind u k l h = is.hub.registers (registers_before K u + k / ii) (at_within u k l h)

  port_kind : (v p : ℕ) (o : Operand) → HasOperand K v p o → (resource A (port A (host A K v) p)).kind ≡ Port
  port_kind v p o h = is.ports (host A K v) p (host_within A K ii enough v (operand_within K v p o h)) (has_port A K ii is good enough v p o h)

  same_begin : (u w : ℕ) → u < size K → w < size K → out_of A K u ≡ out_of A K w → hub_leaves A K u % ii ≡ hub_leaves A K w % ii → u ≡ w
  same_begin u w lu lw e t =
      let h : host A K u ≡ host A K w = sym (is.owners (host A K u) (host_within A K ii enough u lu)) ∙ ap (owner A) e ∙ is.owners (host A K w) (host_within A K ii enough w lw) in
      let lat = ap (λ x. (unit A x).latency) h in
      let f = one_slot (hub_leaves A K u) (hub_leaves A K w) ii t (let b = soon A K ii enough u lu in omega arith) (let b = soon A K ii enough w lw in omega arith) in
      start_once A K u w (omega arith)

  same_wait : (u j w k : ℕ) → u < size K → w < size K → j / ii < registers K u → k / ii < registers K w → hub_at A K ii u j ≡ hub_at A K ii w k →
      (hub_leaves A K u + j + 1) % ii ≡ (hub_leaves A K w + k + 1) % ii → (u ≡ w) × (j ≡ k)
  same_wait u j w k lu lw hj hk e t =
      let (f, g) = registers_once K u w (j / ii) (k / ii) hj hk (is.hub.once _ _ (at_within u j lu hj) (at_within w k lw hk) e) in
      let l = ap (hub_leaves A K) f in
      let a = one_run j k ii enough.interval g in
      let b = one_run k j ii enough.interval (sym g) in
      let same = one_slot (hub_leaves A K u + j + 1) (hub_leaves A K w + k + 1) ii t (omega arith) (omega arith) in
      (f, omega arith)

  ends_at : (v p u d : ℕ) (init : List ℕ) → v < size K → HasOperand K v p (Edge u d init) → (hub_leaves A K u + (start A K v + ii * d - hub_leaves A K u)) % ii ≡ start A K v
  ends_at v p u d init l o =
      slot_of _ (start A K v) d ii (let h = in_time A K ii is good enough v p u d init o in omega arith)
      ∙ mod-eq_of_lt (let h = soon A K ii enough v l in let g : start A K v < ii = omega arith in g)

  same_end : (v p u d w q y e : ℕ) (init others : List ℕ) → v < size K → w < size K → HasOperand K v p (Edge u d init) → HasOperand K w q (Edge y e others) →
      port A (host A K v) p ≡ port A (host A K w) q → start A K v ≡ start A K w → coming A K ii v p u d ≡ coming A K ii w q y e
  same_end v p u d w q y e init others lv lw o r f g =
      let (a, b) = is.own_ports (host A K v) p (host A K w) q (host_within A K ii enough v lv) (host_within A K ii enough w lw) (has_port A K ii is good enough v p (Edge u d init) o) (has_port A K ii is good enough w q (Edge y e others) r) f in
      let c = start_once A K v w g in
      let r' : HasOperand K v p (Edge y e others) = rw (c, b) r in
      let x : Some (Edge u d init) ≡ Some (Edge y e others) = sym o ∙ r' in
      let i : u ≡ y = cc in
      let j : d ≡ e = cc in
      rw (c, b, i, j) refl

  same : (p q : Position) → Stands A K ii p → Stands A K ii q → p.resource ≡ q.resource → p.time % ii ≡ q.time % ii → p ≡ q
  same p q (begins u lu e) (begins w lw f) r t =
      let g : u ≡ w = same_begin u w lu lw (sym (ap (λ z. z.resource) e) ∙ r ∙ ap (λ z. z.resource) f) (sym (ap (λ z. z.time % ii) e) ∙ t ∙ ap (λ z. z.time % ii) f) in
      e ∙ ap (leaving A K) g ∙ sym f
  same p q (begins u lu e) (waits w k lw h f) r t =
      let g : Out ≡ Register = differ _ _ _ _ (out_kind u lu) (at_kind w k lw h) (sym (ap (λ z. z.resource) e) ∙ r ∙ ap (λ z. z.resource) f) in absurd (cc)
  same p q (begins u lu e) (ends w y x d init lw o f) r t =
      let g : Out ≡ Port = differ _ _ _ _ (out_kind u lu) (port_kind w y (Edge x d init) o) (sym (ap (λ z. z.resource) e) ∙ r ∙ ap (λ z. z.resource) f) in absurd (cc)
  same p q (waits u j lu h e) (begins w lw f) r t =
      let g : Register ≡ Out = differ _ _ _ _ (at_kind u j lu h) (out_kind w lw) (sym (ap (λ z. z.resource) e) ∙ r ∙ ap (λ z. z.resource) f) in absurd (cc)
  same p q (waits u j lu h e) (waits w k lw i f) r t =
      let (a, b) = same_wait u j w k lu lw h i (sym (ap (λ z. z.resource) e) ∙ r ∙ ap (λ z. z.resource) f) (sym (ap (λ z. z.time % ii) e) ∙ t ∙ ap (λ z. z.time % ii) f) in
      e ∙ ap₂ (kept A K ii) a b ∙ sym f
  same p q (waits u j lu h e) (ends w y x d init lw o f) r t =
      let g : Register ≡ Port = differ _ _ _ _ (at_kind u j lu h) (port_kind w y (Edge x d init) o) (sym (ap (λ z. z.resource) e) ∙ r ∙ ap (λ z. z.resource) f) in absurd (cc)
  same p q (ends v i u d init lv o e) (begins w lw f) r t =
      let g : Port ≡ Out = differ _ _ _ _ (port_kind v i (Edge u d init) o) (out_kind w lw) (sym (ap (λ z. z.resource) e) ∙ r ∙ ap (λ z. z.resource) f) in absurd (cc)
  same p q (ends v i u d init lv o e) (waits w k lw h f) r t =
      let g : Port ≡ Register = differ _ _ _ _ (port_kind v i (Edge u d init) o) (at_kind w k lw h) (sym (ap (λ z. z.resource) e) ∙ r ∙ ap (λ z. z.resource) f) in absurd (cc)
  same p q (ends v i u d init lv o e) (ends w y x c others lw s f) r t =
      e
      ∙ same_end v i u d w y x c init others lv lw o s (sym (ap (λ z. z.resource) e) ∙ r ∙ ap (λ z. z.resource) f)
      (sym (ends_at v i u d init lv o) ∙ sym (ap (λ z. z.time % ii) e) ∙ t ∙ ap (λ z. z.time % ii) f ∙ ends_at w y x c others lw s)
      ∙ sym f

  same_position : (p q : Position) → Contains (positions A K (hub_map A K ii)) p → Contains (positions A K (hub_map A K ii)) q → p.resource ≡ q.resource → p.time % (hub_map A K ii).ii ≡ q.time % (hub_map A K ii).ii → p ≡ q
  same_position p q mp mq e t = same p q (stands p mp) (stands q mq) e (rw (interval_is A K ii) at t)

  apart : (v w : ℕ) → v < size K → w < size K → start A K v % ii ≡ start A K w % ii → v ≡ w
  apart v w lv lw t =
      start_once A K v w (one_slot (start A K v) (start A K w) ii t (let h = soon A K ii enough v lv in omega arith) (let h = soon A K ii enough w lw in omega arith))

  after_source : (e u v d : ℕ) → HasOrder K e u v d → start A K u + 1 ≤ start A K v + ii * d
  after_source e u v zero o = omega (arith, start_rises A K u v (good.order.forward e u v o))
  after_source e u v (suc d) o = omega (arith, soon A K ii enough u (good.order.known e u v (suc d) o).0)

  -- what a route is to bring
  abbrev Served : ℕ → ℕ → List ℕ → ℕ → ℕ → Type 0
  Served v p path u d =
      (to : ℕ) × (slice_get (unit A (place (hub_map A K ii) v).unit).ports p ≡ Some to) ×
      Brings A (hub_map A K ii) u path to ((place (hub_map A K ii) v).time + (hub_map A K ii).ii * d)

  brings : (v p u d : ℕ) (init : List ℕ) → HasOperand K v p (Edge u d init) → Served v p (hub_path A K ii v p u d) u d
  brings v p u d init o =
      rw (placed A K ii v (operand_within K v p (Edge u d init) o), placed A K ii u (source_within A K ii is good enough v p u d init o), interval_is A K ii)
      (port A (host A K v) p, slice_get-get_or (unit A (host A K v)).ports p 0 (has_port A K ii is good enough v p (Edge u d init) o), (_, refl, brought v p u d init o))

  brings_as : (v p u d : ℕ) (init : List ℕ) (x y : ℕ) (others : List ℕ) → HasOperand K v p (Edge u d init) → HasOperand K v p (Edge x y others) →
      Served v p (hub_path A K ii v p x y) u d
  brings_as v p u d init x y others o k =
      let e : Some (Edge u d init) ≡ Some (Edge x y others) = sym o ∙ k in
      let f : u ≡ x = cc in
      let g : d ≡ y = cc in
      subst₂ (λ (a b : ℕ). Served v p (hub_path A K ii v p a b) u d) f g (brings v p u d init o)

  pub hub_legal : IsLegal A K (hub_map A K ii)
  hub_legal =
      record {
        shape = shaped A K ii;
        interval = rw (interval_is A K ii) enough.interval;
        contexts = rw (interval_is A K ii) enough.contexts;
        units = λ v l. rw (placed A K ii v l) (host_within A K ii enough v l);
        offered = λ v l. rw (placed A K ii v l) (host_offers A K ii enough v l);
        soon = λ v l. rw (placed A K ii v l) (omega (arith, soon A K ii enough v l, enough.contexts, is.small.contexts.1));
        apart = λ v w lv lw e t. apart v w lv lw (rw (placed A K ii v lv, placed A K ii w lw, interval_is A K ii) at t);
        ordered = λ e u v d o.
            let (lu, lv) = good.order.known e u v d o in rw (placed A K ii u lu, placed A K ii v lv, interval_is A K ii) (after_source e u v d o);
        brings = λ r u d init m o.
            let (v, p, x, y, z, l, k, e) = route_of A K ii r m in
            subst (λ (r : Route). HasOperand K r.node r.arg (Edge u d init) → Served r.node r.arg r.path u d) (sym e) (λ h. brings_as v p u d init x y z h k) o;
        alone = λ p q mp mq e t. let f = same_position p q mp mq e t in (ap (λ z. z.source) f, ap (λ z. z.time) f);
        one_way = λ p q mp mq e t. ap (λ z. z.from) (same_position p q mp mq e t);
      }
