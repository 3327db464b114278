-- How a search ends: on times that are loose, or on a flow whose certificate is an excess.
use Rattle.std.proofs.Common.{◌≡◌, ℕ, zero, suc, ◌+◌, ◌-◌, ◌*◌, ◌^◌, ◌<◌, ◌≤◌, List, [], ◌∷◌, length, get_or, set, eqb, Bool, true, false, Option, Some, None, cond, refl, sym, ap, ◌∙◌, subst, arith, inl, inr, ⊎_elim}
use Rattle.std.specs.Prelude.{◌⊎◌, max, replicate, slice_get, slice_index, slice_index_or, if◌then◌else◌}
use Rattle.std.proofs.Math.Nat.{mul-le-mul_left}
use Rattle.std.proofs.lemmas.Bool.{cases_lt, cases_eq, cases_Bool, cond-true, cond-false}
use Rattle.std.proofs.lemmas.List.{get_or-set_same, get_or-set_other, get_or-replicate, length-replicate, get_or_past}
use Rattle.cg_word.specs.declared.op.Op.{Op}
use Rattle.cg_word.specs.Sets.{among}
use Rattle.cg_model.specs.declared.array.Unit.{Unit}
use Rattle.cg_model.specs.declared.kernel.Operand.{Operand}
use Rattle.cg_model.specs.declared.kernel.Operand.TheVariants.{Const as Constant, Edge}
use Rattle.cg_model.specs.declared.kernel.OrderEdge.{OrderEdge}
use Rattle.cg_model.specs.Kernel.{Kernel, IsKernel, node, size}
use Rattle.cg_model.specs.Array.{Arch, IsArch}
use Rattle.cg_model.proofs.Mappings.{operand_within}
use Rattle.cg_recur.specs.Edges.{latency}
use Rattle.cg_bound_registers.specs.declared.dependence.Dependence.{Dependence}
use Rattle.cg_bound_registers.specs.declared.certificate.Pressure.{Pressure}
use Rattle.cg_bound_registers.specs.declared.times.Times.{Times}
use Rattle.cg_bound_registers.specs.Pressure.{of_operand, of_order, data_edge, order_edge, one_if, total, most_latency, registers, IsPressure, IsLoose}
use Rattle.cg_bound_registers.specs.Times.{begins, lasts, longest, AreLoose}
use Rattle.cg_bound_registers.proofs.Totals.{total_same, total_zero}
use Rattle.cg_bound_flow.specs.declared.network.Link.{Link}
use Rattle.cg_bound_flow.specs.declared.network.Part.{Part}
use Rattle.cg_bound_flow.specs.declared.network.Part.TheVariants.{Least, Most, Pull, Stay, Tie}
use Rattle.cg_bound_flow.specs.Network.{link, IsGraph, IsTight, AreKept}
use Rattle.cg_bound_flow.specs.Push.{gather, into, out_of, IsPushed}
use Rattle.cg_bound_flow.specs.Parts.{Stands, AllStand, IsNetwork}
use Rattle.cg_bound_flow.specs.Route.{IsCirculation, IsSettling, IsRouting, AreRouted, IsSpan, HasSpans}
use Rattle.cg_bound_flow.specs.Taken.{IsTaken}
use Rattle.cg_bound_flow.specs.Finish.{stay_of, IsSchedule}
use Rattle.cg_bound_flow.proofs.Circulations.{equal_one, other_none}
use Rattle.cg_bound_flow.proofs.Pushes.{total_set}
use Rattle.cg_bound_flow.proofs.Ends.{pick, known_data, known_tie}
use Rattle.cg_bound_flow.proofs.Values.{value, certifies}

-- ---- the network of a kernel is a graph of its places

-- distances are small
data_near : (K : Kernel) → IsKernel K → (v p : ℕ) (a : Dependence) → data_edge K v p ≡ Some a → a.distance ≤ 255
data_near K good v p a e = by_operand (slice_get (node K v).operands p) refl e
  where
    by_operand : (o : Option Operand) → slice_get (node K v).operands p ≡ o → of_operand v p o ≡ Some a → a.distance ≤ 255
    by_operand None q e = let bad : None ≡ Some a = e in absurd (cc)
    by_operand (Some (Constant w)) q e = let bad : None ≡ Some a = e in absurd (cc)
    by_operand (Some (Edge u d init)) q e =
        let l = operand_within K v p (Edge u d init) q in
        let h = good.near v p u d init l q in
        let s : record { source = u; target = v; arg = p; distance = d } ≡ a = cc in
        subst (λ (z : Dependence). z.distance ≤ 255) s (omega arith)

tie_near : (K : Kernel) → IsKernel K → (e : ℕ) (a : Dependence) → order_edge K e ≡ Some a → a.distance ≤ 255
tie_near K good e a is = by_option (slice_get K.order e) refl is
  where
    by_option : (o : Option OrderEdge) → slice_get K.order e ≡ o → of_order o ≡ Some a → a.distance ≤ 255
    by_option None q r = let bad : None ≡ Some a = r in absurd (cc)
    by_option (Some o) q r =
        let h = good.order.near e o.from o.to o.distance q in
        let s : record { source = o.from; target = o.to; arg = 0; distance = o.distance } ≡ a = cc in
        subst (λ (z : Dependence). z.distance ≤ 255) s (omega arith)

pub some_same : (a b : Dependence) → Some a ≡ Some b → a ≡ b
some_same a b e = cc

-- latencies are small
pub most_small : (op : Op) (us : List Unit) → ((x : ℕ) (d : Unit) → x < length us → (get_or us x d).latency ≤ 4) → most_latency op us ≤ 4
unfolding most_latency
most_small op [] h = omega arith
most_small op (u ∷ us) h =
    let r = most_small op us (λ x d l. h (suc x) d (omega arith)) in
    let a = h zero u (omega arith) in
    ⊎_elim (λ t. let e = cond-true (among u.ops op) (max u.latency (most_latency op us)) (most_latency op us) t in omega arith)
    (λ t. let e = cond-false (among u.ops op) (max u.latency (most_latency op us)) (most_latency op us) t in omega arith)
    (cases_Bool (among u.ops op))

module _ (A : Arch) (K : Kernel) (hops : ℕ → ℕ → ℕ) (ii : ℕ) (good : IsKernel K) (links : List Link) (net : IsNetwork A K hops ii links) where
  abbrev n : ℕ
  n = size K

  pub stands : (k : ℕ) → k < length links → (p : Part) → (link links k).part ≡ p → Stands A K hops ii (link links k) p
  stands k l p e = subst (Stands A K hops ii (link links k)) e (net.right k l)

  -- gains and losses are at most c, if the numbers of registers are
  pub bounded : (c : ℕ) → 2 ^ 15 ≤ c → ((op : Op) → latency A op ≤ 4) → ((op : Op) → most_latency op A.units ≤ 4) → ((v p : ℕ) → hops v p ≤ c) → ii ≤ 64 → (k : ℕ) → k < length links →
      ((link links k).from < n + n + n) × ((link links k).to < n + n + n) × ((link links k).gain ≤ c) × ((link links k).loss ≤ c)
  bounded c room least most near small k l = all (link links k).part (net.right k l)
    where
      turns : (d : ℕ) → d ≤ 255 → ii * d ≤ 2 ^ 15
      turns d h = let a = mul-le-mul_left {m = d} {n = 255} ii h in omega (arith, small)

      all : (p : Part) → Stands A K hops ii (link links k) p → ((link links k).from < n + n + n) × ((link links k).to < n + n + n) × ((link links k).gain ≤ c) × ((link links k).loss ≤ c)
      all (Least x) (lx, f, t, g, d) = let h = least (node K x).op in (omega (arith, room), omega (arith, room), omega (arith, room), omega (arith, room))
      all (Most x) (lx, f, t, g, d) = let h = most (node K x).op in (omega (arith, room), omega (arith, room), omega (arith, room), omega (arith, room))
      all (Pull v q) (a, is, f, t, g, d) = let (ks, kt) = known_data A K hops ii good v q a is in let h = near a.target a.arg in let m = turns a.distance (data_near K good v q a is) in (omega arith, omega arith, omega arith, omega (arith, room))
      all (Stay v q) (a, is, f, t, g, d) = let (ks, kt) = known_data A K hops ii good v q a is in let m = turns a.distance (data_near K good v q a is) in (omega arith, omega arith, omega (arith, room), omega (arith, room))
      all (Tie e) (a, is, f, t, g, d) = let (ks, kt) = known_tie A K hops ii good e a is in let m = turns a.distance (tie_near K good e a is) in (omega arith, omega arith, omega (arith, room), omega (arith, room))

  pub graph : ((op : Op) → latency A op ≤ 4) → ((op : Op) → most_latency op A.units ≤ 4) → ((v p : ℕ) → hops v p ≤ 2 ^ 32) → ii ≤ 64 → IsGraph (n + n + n) links
  graph least most near small =
      let all = bounded (2 ^ 32) (omega arith) least most near small in
      record {
        few = (let a = good.few in omega arith);
        short = (let a = good.few in let b = good.order.few in let c = net.few in omega arith);
        from = λ k l. (all k l).0;
        to = λ k l. (all k l).1;
        gains = λ k l. (all k l).2;
        losses = λ k l. (all k l).3;
      }

  -- values leave before their last uses
  pub spans : HasSpans n links
  spans k v p l e =
      let (a, is, f, t, g, d) = stands k l (Stay v p) e in
      let (ks, kt) = known_data A K hops ii good v p a is in
      let q : (link links k).to - (n + n) ≡ a.source = omega arith in
      (omega arith, (omega arith, λ flow at kept. span k l v p a is f t g d q flow at kept))
    where
      span : (k : ℕ) → k < length links → (v p : ℕ) (a : Dependence) → data_edge K v p ≡ Some a → (link links k).from ≡ a.target → (link links k).to ≡ size K + size K + a.source → (link links k).gain ≡ ii * a.distance → (link links k).loss ≡ 0 →
          (link links k).to - (n + n) ≡ a.source → (flow at : List ℕ) → AreKept links (length links) flow at → slice_index at (n + ((link links k).to - (n + n))) ≤ slice_index at (n + n + ((link links k).to - (n + n)))
      span k l v p a is f t g d q flow at kept =
          let (j, m, pull) = (net.uses v p a is).0 in
          let (b, js, jf, jt, jg, jd) = stands j m (Pull v p) pull in
          let same : a ≡ b = some_same a b (sym is ∙ js) in
          let h = (kept k l).0 in
          let i = (kept j m).0 in
          let f' = ap (slice_index at) f in
          let t' = ap (slice_index at) t in
          let jf' = ap (slice_index at) jf in
          let jt' = ap (slice_index at) jt in
          let s1 = ap (λ (z : Dependence). slice_index at (size K + z.source)) same in
          let s2 = ap (λ (z : Dependence). slice_index at z.target) same in
          let s3 = ap (λ (z : Dependence). ii * z.distance) same in
          let q1 = ap (λ z. slice_index at (n + z)) q in
          let q2 = ap (λ z. slice_index at (n + n + z)) q in
          omega arith

  -- ---- routed values

  module _ (flow at : List ℕ) (routed : List Bool) (kept : AreKept links (length links) flow at) (circulation : IsCirculation n links flow routed) (covered : (w : ℕ) → slice_index_or routed w false ≡ true → IsSpan n links w)
      (all : AreRouted n links (length links) routed) (bounds : IsGraph (n + n + n) links) where
    -- the stay of a value by its places
    stayed : (w : ℕ) → slice_index at (n + w) * one_if (slice_index_or routed w false) + stay_of n at routed w ≤ slice_index at (n + n + w) * one_if (slice_index_or routed w false)
    stayed w = by_mark (slice_index_or routed w false) refl
      where
        by_mark : (b : Bool) → slice_index_or routed w false ≡ b → slice_index at (n + w) * one_if b + (if b then slice_index at (n + n + w) - slice_index at (n + w) else 0) ≤ slice_index at (n + n + w) * one_if b
        by_mark true e = let h = (covered w e).1 flow at kept in omega arith
        by_mark false e = omega arith

    pub excess : ii * registers A < total n (stay_of n at routed) → ii * registers A + gather links flow (λ l. l.loss) < gather links flow (λ l. l.gain)
    excess h =
        let v = value n links flow at routed bounds.from bounds.to circulation (λ k. 0) (stay_of n at routed)
        (λ k l. ⊎_elim
        (λ (p : 0 < slice_index flow k). let t = (kept k l).1 p in let q = ap (λ z. slice_index flow k * z) t in omega arith)
        (λ (p : slice_index flow k ≤ 0). let z : slice_index flow k ≡ 0 = omega arith in let a = ap (λ y. y * (slice_index at (link links k).to + (link links k).loss)) z in omega arith)
        (cases_lt 0 (slice_index flow k)))
        (λ w l. stayed w)
        in
        let z = total_zero (length links) (λ k. 0) (λ k l. refl) in
        omega arith

    pub loose : (t : Times) → IsSchedule n at routed t → total n (longest t) ≤ ii * registers A → AreLoose A K hops ii t
    loose t s few =
        record {
          latencies = λ w l.
              let (k, m, e) = (net.nodes w l).0 in
              let (lx, f, to, g, d) = stands k m (Least w) e in
              let h = (kept k m).0 in
              let f' = ap (slice_index at) f in
              let t' = ap (slice_index at) to in
              let (k2, m2, e2) = (net.nodes w l).1 in
              let (lx2, f2, to2, g2, d2) = stands k2 m2 (Most w) e2 in
              let h2 = (kept k2 m2).0 in
              let f2' = ap (slice_index at) f2 in
              let t2' = ap (slice_index at) to2 in
              let q = s.last w l in
              (omega arith, omega arith);
          edges = λ v p a is.
              let (ks, kt) = known_data A K hops ii good v p a is in
              let (k, m, e) = (net.uses v p a is).0 in
              let (b, js, f, to, g, d) = stands k m (Pull v p) e in
              let same : b ≡ a = some_same b a (sym js ∙ is) in
              let h = (kept k m).0 in
              let f' = ap (slice_index at) f in
              let t' = ap (slice_index at) to in
              let s1 = ap (λ (z : Dependence). slice_index at (size K + z.source)) same in
              let s2 = ap (λ (z : Dependence). slice_index at z.target) same in
              let s3 = ap (λ (z : Dependence). ii * z.distance) same in
              let s4 = ap (λ (z : Dependence). hops z.target z.arg) same in
              let x = s.time a.source ks in
              let y = s.time a.target kt in
              let z = s.last a.source ks in
              let up = rises a.source ks in
              omega arith;
          order = λ e a is.
              let (ks, kt) = known_tie A K hops ii good e a is in
              let (k, m, q) = net.order e a is in
              let (b, js, f, to, g, d) = stands k m (Tie e) q in
              let same : b ≡ a = some_same b a (sym js ∙ is) in
              let h = (kept k m).0 in
              let f' = ap (slice_index at) f in
              let t' = ap (slice_index at) to in
              let s1 = ap (λ (z : Dependence). slice_index at z.source) same in
              let s2 = ap (λ (z : Dependence). slice_index at z.target) same in
              let s3 = ap (λ (z : Dependence). ii * z.distance) same in
              let x = s.time a.source ks in
              let y = s.time a.target kt in
              omega arith;
          stays = λ v p a is.
              let (ks, kt) = known_data A K hops ii good v p a is in
              let (k, m, e) = (net.uses v p a is).1 in
              let (b, js, f, to, g, d) = stands k m (Stay v p) e in
              let same : b ≡ a = some_same b a (sym js ∙ is) in
              let h = (kept k m).0 in
              let f' = ap (slice_index at) f in
              let t' = ap (slice_index at) to in
              let s1 = ap (λ (z : Dependence). slice_index at (size K + size K + z.source)) same in
              let s2 = ap (λ (z : Dependence). slice_index at z.target) same in
              let s3 = ap (λ (z : Dependence). ii * z.distance) same in
              let s5 = ap (λ (z : Dependence). z.source) same in
              let x = s.time a.source ks in
              let y = s.time a.target kt in
              let z = s.last a.source ks in
              let up = rises a.source ks in
              let u : (link links k).to - (n + n) ≡ a.source = omega arith in
              let r : slice_index_or routed a.source false ≡ true = ap (λ j. slice_index_or routed j false) (sym u) ∙ all k v p m e in
              let i : longest t a.source ≡ slice_index at (n + n + a.source) - slice_index at (n + a.source) =
              s.stay a.source ks ∙ cond-true (slice_index_or routed a.source false) (slice_index at (n + n + a.source) - slice_index at (n + a.source)) 0 r in
              omega arith;
          few = few;
        }
      where
        rises : (w : ℕ) → w < n → slice_index at w ≤ slice_index at (n + w)
        rises w l =
            let (k, m, e) = (net.nodes w l).0 in
            let (lx, f, to, g, d) = stands k m (Least w) e in
            let h = (kept k m).0 in
            let f' = ap (slice_index at) f in
            let t' = ap (slice_index at) to in
            omega arith

  -- ---- a link that can't be kept

  module _ (flow at : List ℕ) (m by : ℕ) (flow1 : List ℕ) (idle : (k : ℕ) → slice_index flow k ≡ 0) (each : length flow ≡ length links) (inside : m < length links) (bounds : IsGraph (n + n + n) links)
      (pushed : IsPushed links at flow (link links m).to (link links m).from by flow1) where
    abbrev flow2 : List ℕ
    flow2 = set flow1 m (slice_index flow1 m + by)

    pub within : m < length flow1
    within = let a = pushed.each in omega (arith, each, inside)

    idle_sum : (f : Link → ℕ) → gather links flow f ≡ 0
    idle_sum f = total_zero (length links) (λ k. slice_index flow k * f (link links k)) (λ k l. let z = ap (λ y. y * f (link links k)) (idle k) in omega arith)

    even : (x : ℕ) → into links flow2 x ≡ out_of links flow2 x
    even x =
        let a = total_set (length links) (λ k. one_if (eqb (link links k).to x)) flow1 m (slice_index flow1 m + by) inside within in
        let b = total_set (length links) (λ k. one_if (eqb (link links k).from x)) flow1 m (slice_index flow1 m + by) inside within in
        let c = pushed.balanced x in
        let d = idle_sum (λ l. one_if (eqb l.to x)) in
        let e = idle_sum (λ l. one_if (eqb l.from x)) in
        omega arith

    pub circulation : IsCirculation n links flow2 []
    circulation = record { times = λ w l. even w; leaves = λ w l. let h = even (n + w) in omega arith; ends = λ w l. let h = even (n + n + w) in omega arith }

    pub blocked_excess : ii * registers A < by → slice_index at (link links m).to + (link links m).loss < slice_index at (link links m).from + (link links m).gain →
        ii * registers A + gather links flow2 (λ l. l.loss) < gather links flow2 (λ l. l.gain)
    blocked_excess much long =
        let v = value n links flow2 at [] bounds.from bounds.to circulation (λ k. by * one_if (eqb m k)) (λ w. 0)
        (λ k l. ⊎_elim
        (λ (e : m ≡ k). subst (λ j. slice_index flow2 j * (slice_index at (link links j).to + (link links j).loss) + by * one_if (eqb m j) ≤ slice_index flow2 j * (slice_index at (link links j).from + (link links j).gain)) e here)
        (λ ne. there k l ne)
        (cases_eq m k))
        (λ w l. omega arith)
        in
        let z = total_zero n (λ w. 0) (λ k l. refl) in
        let p = pick (length links) (λ k. by) m inside in
        omega (arith, much)
      where
        here : slice_index flow2 m * (slice_index at (link links m).to + (link links m).loss) + by * one_if (eqb m m) ≤ slice_index flow2 m * (slice_index at (link links m).from + (link links m).gain)
        here =
            let a = get_or-set_same flow1 m (slice_index flow1 m + by) 0 within in
            let b = equal_one m m refl in
            let b' = ap (λ z. by * z) b in
            let c = mul-le-mul_left {m = slice_index at (link links m).to + (link links m).loss + 1} {n = slice_index at (link links m).from + (link links m).gain} (slice_index flow2 m) (omega (arith, long)) in
            omega arith

        there : (k : ℕ) → k < length links → (m ≡ k → ⊥) → slice_index flow2 k * (slice_index at (link links k).to + (link links k).loss) + by * one_if (eqb m k) ≤ slice_index flow2 k * (slice_index at (link links k).from + (link links k).gain)
        there k l ne =
            let a = get_or-set_other flow1 m k (slice_index flow1 m + by) 0 (λ e. ne (sym e)) in
            let b = ap (λ z. by * z) (other_none m k ne) in
            ⊎_elim
            (λ (q : slice_index flow1 k ≡ slice_index flow k).
            let z : slice_index flow2 k ≡ 0 = a ∙ q ∙ idle k in
            let z' = ap (λ y. y * (slice_index at (link links k).to + (link links k).loss)) z in
            omega arith)
            (λ (t : IsTight at (link links k)). let q = ap (λ y. slice_index flow2 k * y) t in omega arith)
            (pushed.tight k l)

-- ---- as the code reads them

pub stays_sum : (n : ℕ) (at : List ℕ) (routed : List Bool) (t : Times) → IsSchedule n at routed t → total n (longest t) ≡ total n (stay_of n at routed)
stays_sum n at routed t s = total_same n (longest t) (stay_of n at routed) s.stay

pub graph_as : (m n : ℕ) (ls ls' : List Link) → IsGraph m ls → m ≡ n → ls ≡ ls' → IsGraph n ls'
graph_as m n ls ls' g e f = subst (IsGraph n) f (subst (λ z. IsGraph z ls) e g)

pub spans_as : (m n : ℕ) (ls ls' : List Link) → HasSpans m ls → m ≡ n → ls ≡ ls' → HasSpans n ls'
spans_as m n ls ls' g e f = subst (HasSpans n) f (subst (λ z. HasSpans z ls) e g)

pub all_zeros : {X : Type 0} (n k : ℕ) (a : X) → get_or (replicate n a) k a ≡ a
all_zeros n k a =
    ⊎_elim (λ (l : k < n). get_or-replicate n k a a l) (λ (l : n ≤ k). get_or_past (replicate n a) k a (let h = length-replicate n a in omega arith)) (cases_lt k n)

pub idle_circulates : (n : ℕ) (links : List Link) (flow : List ℕ) (routed : List Bool) → ((k : ℕ) → slice_index flow k ≡ 0) → ((w : ℕ) → slice_index_or routed w false ≡ false) → IsCirculation n links flow routed
idle_circulates n links flow routed idle none =
    record {
      times = λ w l. let a = idle_at w in omega arith;
      leaves = λ w l. let a = idle_at (n + w) in let b = ap one_if (none w) in omega arith;
      ends = λ w l. let a = idle_at (n + n + w) in let b = ap one_if (none w) in omega arith;
    }
  where
    zero_sum : (f : Link → ℕ) → gather links flow f ≡ 0
    zero_sum f = total_zero (length links) (λ k. slice_index flow k * f (link links k)) (λ k l. let z = ap (λ y. y * f (link links k)) (idle k) in omega arith)

    idle_at : (x : ℕ) → (into links flow x ≡ 0) × (out_of links flow x ≡ 0)
    idle_at x = (zero_sum (λ l. one_if (eqb l.to x)), zero_sum (λ l. one_if (eqb l.from x)))

pub routing_begins : (n m : ℕ) (links : List Link) (flow at : List ℕ) (routed : List Bool) → IsSettling links flow m (length links) at → m ≡ n + n + n → length links ≤ 2 ^ 14 → length flow ≡ length links → ((k : ℕ) → slice_index flow k ≡ 0) →
    length routed ≡ n → ((w : ℕ) → slice_index_or routed w false ≡ false) → IsRouting n links 0 flow at routed
routing_begins n m links flow at routed s e short each idle marks none =
    record {
      kept = s.kept;
      each = s.each ∙ e;
      flows = each;
      marks = marks;
      near = λ x. let h = s.near x in omega (arith, short);
      small = λ k. let z = idle k in omega arith;
      circulation = idle_circulates n links flow routed idle none;
      spans = λ w h. let z : false ≡ true = sym (none w) ∙ h in absurd (cc);
    }
