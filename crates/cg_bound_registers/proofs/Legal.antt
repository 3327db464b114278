-- A legal mapping excludes each certificate of pressure at its interval.
use Rattle.std.proofs.Common.{◌≡◌, ℕ, zero, suc, ◌+◌, ◌*◌, ◌%◌, ◌<◌, ◌≤◌, List, [], ◌∷◌, ◌++◌, length, get_or, Option, Some, None, eqb, true, false, refl, sym, ap, ◌∙◌, subst, arith, ⊎_elim, Contains, length-append, eq-eqb}
use Rattle.std.specs.Prelude.{slice_get, flat_map}
use Rattle.std.proofs.lemmas.Bool.{cond-true, cases_lt}
use Rattle.std.proofs.lemmas.List.{get_or_past}
use Rattle.std.proofs.lemmas.List.Elements.{Contains-append_left, Contains-append_right}
use Rattle.cg_model.specs.declared.kernel.Operand.{Operand}
use Rattle.cg_model.specs.declared.kernel.Operand.TheVariants.{Const as Constant, Edge}
use Rattle.cg_model.specs.declared.kernel.OrderEdge.{OrderEdge}
use Rattle.cg_model.specs.declared.array.Resource.{Resource}
use Rattle.cg_model.specs.declared.array.Kind.TheVariants.{Wire}
use Rattle.cg_model.specs.Kernel.{Kernel, IsKernel, HasOperand, node, size}
use Rattle.cg_word.proofs.Marks.{among_it}
use Rattle.cg_model.specs.Array.{Arch, resource, unit, delay}
use Rattle.cg_model.proofs.Mappings.{operand_within}
use Rattle.cg_overlap.proofs.Shape.{routed}
use Rattle.cg_recur.specs.Edges.{latency}
use Rattle.cg_model.specs.Mapping.{Mapping, Position, IsLegal, place, leaves, positions, positions_on, positions_after, of_operand as positions_of, of_route, Goes}
use Rattle.cg_bound_registers.specs.declared.certificate.Stay.{Stay}
use Rattle.cg_bound_registers.specs.declared.certificate.Pressure.{Pressure}
use Rattle.cg_bound_registers.specs.Pressure.{Dependence, on_edge, weigh, of_operand, of_order, data_edge, one_if, from, is_register, registers, most_latency, IsKept, no_hops, IsPressure}
use Rattle.cg_class.proofs.Totals.{sum_by_total}
use Rattle.cg_class.proofs.Balance.{at_most}
use Rattle.cg_bound_registers.proofs.Slots.{slots, total_ones}
use Rattle.cg_bound_registers.proofs.Claims.{Each, each_more, each_append, each_at, Differ, Apart, apart_append, apart_at, stops, Among, Stop, each_stop, stops_apart, length-stops}
use Rattle.cg_bound_registers.proofs.Duality.{AreKept, no_excess}
use Rattle.cg_bound_registers.proofs.Latencies.{least_le, most_ge}

Contains-first : {X : Type 0} (x : X) (xs : List X) → Contains (x ∷ xs) x
Contains-first x xs = (0, omega arith, refl)

Contains-later : {X : Type 0} (x y : X) (xs : List X) → Contains xs x → Contains (y ∷ xs) x
Contains-later x y xs h = (suc h.0, omega (arith, h.1), h.2)

contains_from : (c : Position) (xs : List Position) → Among c xs → Contains xs c
contains_from c [] m = absurd m
contains_from c (x ∷ xs) m = ⊎_elim (λ e. subst (Contains (x ∷ xs)) e (Contains-first x xs)) (λ l. Contains-later c x xs (contains_from c xs l)) m

Contains-flat_map : {X Y : Type 0} (f : X → List Y) (xs : List X) (x : X) (y : Y) (k : ℕ) → k < length xs → get_or xs k x ≡ x → Contains (f x) y → Contains (flat_map f xs) y
Contains-flat_map f [] x y k l e m = absurd (omega arith)
Contains-flat_map f (z ∷ xs) x y zero l e m = Contains-append_left (f z) (flat_map f xs) y (rw e m)
Contains-flat_map f (z ∷ xs) x y (suc k) l e m = Contains-append_right (f z) (flat_map f xs) y (Contains-flat_map f xs x y k (omega arith) e m)

-- ---- claims: a list of positions on registers, no two of one source and time

module _ (A : Arch) (K : Kernel) (M : Mapping) (legal : IsLegal A K M) where
  abbrev pub Claim : Position → Type 0
  Claim c = (is_register (resource A c.resource).kind ≡ true) × Contains (positions A K M) c

  no_position : Position
  no_position = record { source = 0; resource = 0; time = 0; from = None }

  -- a register is a resource
  known : (r : ℕ) → is_register (resource A r).kind ≡ true → r < length A.resources
  known r h =
      ⊎_elim (λ l. l) (λ l. let e = get_or_past A.resources r _ l in let h' : false ≡ true = sym (ap (λ (z : Resource). is_register z.kind) e) ∙ h in absurd (cc)) (cases_lt r (length A.resources))

  -- claims are at most the registers times the interval
  few_claims : (cs : List Position) → Each Claim cs → Apart cs → length cs ≤ M.ii * registers A
  few_claims cs each apart =
      let N = length cs in
      let at : (v : ℕ) → v < N → Claim (get_or cs v no_position) = λ v l. each_at Claim cs no_position v each l in
      let h = at_most N (length A.resources) M.ii (λ v. (get_or cs v no_position).resource) (λ v. true) (λ x. is_register (resource A x).kind)
      (λ v l. known _ (at v l).0)
      (λ x l. slots N M.ii (λ v. (get_or cs v no_position).resource) (λ v. (get_or cs v no_position).time % M.ii) x (λ v m. let p = legal.interval in omega arith)
      (λ v w lv lw a b e. let (s, t) = legal.alone _ _ (at v lv).1 (at w lw).1 (a ∙ sym b) e in apart_at cs no_position v w apart lv lw s t))
      (λ v l t. (at v l).0)
      in
      let d = total_ones N in
      let e = sum_by_total (λ (r : Resource). one_if (is_register r.kind)) A.resources (record { name = []; kind = Wire; drivers = [] }) in
      let f = ap (λ z. M.ii * z) e in
      omega arith

  -- ---- the claims of one edge

  -- its route: a path from the out of its source's unit, along links, to its port in time
  pub record Way (v p u d : ℕ) (init : List ℕ) : Type 0 where
    pub path : List ℕ
    pub port : ℕ
    pub has : slice_get (unit A (place M v).unit).ports p ≡ Some port
    pub goes : Goes A (unit A (place M u).unit).out (leaves A M u) path port ((place M v).time + M.ii * d)
    pub within : (c : Position) → Contains (positions_after A u (unit A (place M u).unit).out (leaves A M u) path) c → Contains (positions A K M) c

  way_from : (v p u d : ℕ) (init : List ℕ) → HasOperand K v p (Edge u d init) → Way v p u d init
  unfolding positions
  way_from v p u d init h =
      let (path, (k, l, e)) = routed K M legal.shape v p u d init (operand_within K v p (Edge u d init) h) h in
      let (port, has, (rest, is, g)) = legal.brings (record { node = v; arg = p; path = path }) u d init (k, l, e) h in
      record {
        path = rest;
        port = port;
        has = has;
        goes = g;
        within = λ c m.
            Contains-flat_map (of_route A K M) M.routes (record { node = v; arg = p; path = path }) c k l e
            (subst (λ (o : Option Operand). Contains (positions_of A M path o) c) (sym h)
            (subst (λ (z : List ℕ). Contains (positions_on A u (leaves A M u) z) c) (sym is)
            (Contains-later c _ (positions_after A u (unit A (place M u).unit).out (leaves A M u) rest) m)));
      }

  -- its stops
  abbrev stops_of : (v p u d : ℕ) (init : List ℕ) → Way v p u d init → List Position
  stops_of v p u d init w = stops A u (unit A (place M u).unit).out (leaves A M u) w.path

  claims_of : (v p u d : ℕ) (init : List ℕ) (w : Way v p u d init) → Each (λ c. Claim c × (c.source ≡ u)) (stops_of v p u d init w)
  claims_of v p u d init w =
      each_more (Stop A u (unit A (place M u).unit).out (leaves A M u) w.path) (λ c. Claim c × (c.source ≡ u)) (stops_of v p u d init w)
      (λ c (a, s, r, m). ((r, w.within c (contains_from c _ m)), s)) (each_stop A u w.path (unit A (place M u).unit).out (leaves A M u))

  held : (v p : ℕ) (o : Option Operand) → slice_get (node K v).operands p ≡ o → List Position
  held v p None e = []
  held v p (Some (Constant w)) e = []
  held v p (Some (Edge u d init)) e = stops_of v p u d init (way_from v p u d init e)

  claims : List Stay → List Position
  claims [] = []
  claims (s ∷ ss) = held s.node s.arg (slice_get (node K s.node).operands s.arg) refl ++ claims ss

  each_held : (v p : ℕ) (o : Option Operand) (e : slice_get (node K v).operands p ≡ o) → Each Claim (held v p o e)
  unfolding held
  each_held v p None e = tt
  each_held v p (Some (Constant w)) e = tt
  each_held v p (Some (Edge u d init)) e = each_more (λ c. Claim c × (c.source ≡ u)) Claim (stops_of v p u d init (way_from v p u d init e)) (λ c (a, s). a) (claims_of v p u d init (way_from v p u d init e))

  each_claim : (ss : List Stay) → Each Claim (claims ss)
  unfolding claims
  each_claim [] = tt
  each_claim (s ∷ ss) = each_append Claim (held s.node s.arg (slice_get (node K s.node).operands s.arg) refl) (claims ss) (each_held s.node s.arg (slice_get (node K s.node).operands s.arg) refl) (each_claim ss)

  abbrev weight_of : (Dependence → ℕ) → List Stay → ℕ
  weight_of f ss = weigh (λ (s : Stay). 1) (λ s. data_edge K s.node s.arg) f ss

  -- claims of other sources
  others_held : (u v p : ℕ) (o : Option Operand) (e : slice_get (node K v).operands p ≡ o) → on_edge (from u) (of_operand v p o) ≡ 0 → Each (λ (c : Position). c.source ≡ u → ⊥) (held v p o e)
  unfolding held
  others_held u v p None e z = tt
  others_held u v p (Some (Constant w)) e z = tt
  others_held u v p (Some (Edge s d init)) e z =
      each_more (λ (c : Position). Claim c × (c.source ≡ s)) (λ (c : Position). c.source ≡ u → ⊥) (stops_of v p s d init (way_from v p s d init e))
      (λ c (a, b) f. let g : one_if (eqb s u) ≡ 1 = cond-true (eqb s u) 1 0 (eq-eqb s u (sym b ∙ f)) in let z' : one_if (eqb s u) ≡ 0 = z in omega arith) (claims_of v p s d init (way_from v p s d init e))

  others : (u : ℕ) (ss : List Stay) → weight_of (from u) ss ≡ 0 → Each (λ (c : Position). c.source ≡ u → ⊥) (claims ss)
  unfolding claims
  others u [] z = tt
  others u (s ∷ ss) z =
      each_append (λ (c : Position). c.source ≡ u → ⊥) (held s.node s.arg (slice_get (node K s.node).operands s.arg) refl) (claims ss)
      (others_held u s.node s.arg (slice_get (node K s.node).operands s.arg) refl (omega arith)) (others u ss (omega arith))

  held_apart : (v p : ℕ) (o : Option Operand) (e : slice_get (node K v).operands p ≡ o) → Apart (held v p o e)
  unfolding held
  held_apart v p None e = tt
  held_apart v p (Some (Constant w)) e = tt
  held_apart v p (Some (Edge u d init)) e = stops_apart A u (way_from v p u d init e).path (unit A (place M u).unit).out (leaves A M u)

  module _ (good : IsKernel K) where
    across : (ss : List Stay) (v p : ℕ) (o : Option Operand) (e : slice_get (node K v).operands p ≡ o) → ((w : ℕ) → w < size K → on_edge (from w) (of_operand v p o) + weight_of (from w) ss ≤ 1) →
        Each (λ x. Each (Differ x) (claims ss)) (held v p o e)
    unfolding held
    across ss v p None e one = tt
    across ss v p (Some (Constant w)) e one = tt
    across ss v p (Some (Edge u d init)) e one =
        let l = good.wired.sources v p u d init (operand_within K v p (Edge u d init) e) e in
        let h : one_if (eqb u u) + weight_of (from u) ss ≤ 1 = one u l in
        let g : one_if (eqb u u) ≡ 1 = cond-true (eqb u u) 1 0 (eq-eqb u u refl) in
        let z : weight_of (from u) ss ≡ 0 = omega arith in
        let no = others u ss z in
        each_more (λ (c : Position). Claim c × (c.source ≡ u)) (λ x. Each (Differ x) (claims ss)) (stops_of v p u d init (way_from v p u d init e))
        (λ x (a, b). each_more (λ (c : Position). c.source ≡ u → ⊥) (Differ x) (claims ss) (λ c ne f t. ne (sym f ∙ b)) no) (claims_of v p u d init (way_from v p u d init e))

    claims_apart : (ss : List Stay) → ((w : ℕ) → w < size K → weight_of (from w) ss ≤ 1) → Apart (claims ss)
    unfolding claims
    claims_apart [] one = tt
    claims_apart (s ∷ ss) one =
        apart_append (held s.node s.arg (slice_get (node K s.node).operands s.arg) refl) (claims ss)
        (held_apart s.node s.arg (slice_get (node K s.node).operands s.arg) refl)
        (claims_apart ss (λ w l. let h = one w l in omega arith))
        (across ss s.node s.arg (slice_get (node K s.node).operands s.arg) refl (λ w l. let h = one w l in omega arith))

    -- ---- the sums

    abbrev time : ℕ → ℕ
    time w = (place M w).time

    abbrev lasts : ℕ → ℕ
    lasts w = (unit A (place M w).unit).latency

    length-held : (v p : ℕ) (o : Option Operand) (e : slice_get (node K v).operands p ≡ o) →
        on_edge (λ a. time a.target) (of_operand v p o) + M.ii * on_edge (λ a. a.distance) (of_operand v p o)
        ≡ on_edge (λ a. time a.source) (of_operand v p o) + on_edge (λ a. lasts a.source) (of_operand v p o) + length (held v p o e)
    unfolding held
    length-held v p None e = omega arith
    length-held v p (Some (Constant w)) e = omega arith
    length-held v p (Some (Edge u d init)) e =
        let w = way_from v p u d init e in
        let h = length-stops A u w.path (unit A (place M u).unit).out (leaves A M u) w.port ((place M v).time + M.ii * d) w.goes in
        omega arith

    length-claims : (ss : List Stay) →
        weight_of (λ a. time a.target) ss + M.ii * weight_of (λ a. a.distance) ss
        ≡ weight_of (λ a. time a.source) ss + weight_of (λ a. lasts a.source) ss + length (claims ss)
    unfolding claims
    length-claims [] = omega arith
    length-claims (s ∷ ss) =
        let h = length-held s.node s.arg (slice_get (node K s.node).operands s.arg) refl in
        let r = length-claims ss in
        let a = length-append (held s.node s.arg (slice_get (node K s.node).operands s.arg) refl) (claims ss) in
        omega arith

    tied : (k : ℕ) (o : Option OrderEdge) → slice_get K.order k ≡ o → (a : Dependence) → of_order o ≡ Some a → time a.source + 1 ≤ time a.target + M.ii * a.distance
    tied k None e a is = let bad : None ≡ Some a = is in absurd (cc)
    tied k (Some o) e a is =
        let s : record { source = o.from; target = o.to; arg = 0; distance = o.distance } ≡ a = cc in
        let h = legal.ordered k o.from o.to o.distance e in
        subst (λ (z : Dependence). time z.source + 1 ≤ time z.target + M.ii * z.distance) s (omega arith)

    module _ (hops : ℕ → ℕ → ℕ) (is_kept : IsKept A K M hops) where
      pulled : (v p : ℕ) (o : Option Operand) → slice_get (node K v).operands p ≡ o → (a : Dependence) → of_operand v p o ≡ Some a → time a.source + lasts a.source + hops a.target a.arg ≤ time a.target + M.ii * a.distance
      pulled v p None e a is = let bad : None ≡ Some a = is in absurd (cc)
      pulled v p (Some (Constant w)) e a is = let bad : None ≡ Some a = is in absurd (cc)
      pulled v p (Some (Edge u d init)) e a is =
          let s : record { source = u; target = v; arg = p; distance = d } ≡ a = cc in
          subst (λ (z : Dependence). time z.source + lasts z.source + hops z.target z.arg ≤ time z.target + M.ii * z.distance) s (is_kept v p u d init e)

      latency_within : (w : ℕ) → w < size K → (latency A (node K w).op ≤ lasts w) × (lasts w ≤ most_latency (node K w).op A.units)
      latency_within w l =
          let h = among_it (unit A (place M w).unit).ops (node K w).op (legal.offered w l) in
          (least_le A (node K w).op (place M w).unit _ (legal.units w l) h, most_ge (node K w).op A.units (place M w).unit _ (legal.units w l) h)

      kept : AreKept A K good hops M.ii time lasts
      kept = record {
        latencies = latency_within;
        edges = λ v p a is. pulled v p (slice_get (node K v).operands p) refl a is;
        order = λ e a is. tied e (slice_get K.order e) refl a is;
      }

      pub not_legal : (P : Pressure) → IsPressure A K hops M.ii P → ⊥
      not_legal P p =
          let a = length-claims P.stays.items in
          no_excess A K good hops M.ii time lasts kept P p.balanced (length (claims P.stays.items)) (omega arith)
          (few_claims (claims P.stays.items) (each_claim P.stays.items) (claims_apart P.stays.items (λ w l. p.balanced.one w l))) p.excess

pub no_pressure : (A : Arch) (K : Kernel) (M : Mapping) (hops : ℕ → ℕ → ℕ) (P : Pressure) → IsKernel K → IsLegal A K M → IsKept A K M hops → IsPressure A K hops M.ii P → ⊥
no_pressure A K M hops P good legal kept p = not_legal A K M legal good hops kept P p

-- a path takes no negative time
goes_up : (A : Arch) (path : List ℕ) (q t r s : ℕ) → Goes A q t path r s → t ≤ s
goes_up A [] q t r s (e, f) = omega arith
goes_up A (x ∷ path) q t r s (c, g) = let h = goes_up A path x (t + delay A x) r s g in omega arith

pub no_plain_pressure : (A : Arch) (K : Kernel) (M : Mapping) (P : Pressure) → IsKernel K → IsLegal A K M → IsPressure A K no_hops M.ii P → ⊥
no_plain_pressure A K M P good legal p =
    no_pressure A K M no_hops P good legal (λ v p u d init h. let w = way_from A K M legal v p u d init h in let m = goes_up A w.path _ _ _ _ w.goes in omega arith) p
