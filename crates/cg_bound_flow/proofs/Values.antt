-- The value of a circulation by the times of places, and the certificate of one.
use Rattle.std.proofs.Common.{◌≡◌, ℕ, zero, suc, ◌+◌, ◌-◌, ◌*◌, ◌<◌, ◌≤◌, List, length, eqb, Bool, true, false, refl, sym, ap, ap₂, ◌∙◌, subst, arith, ⊎_elim}
use Rattle.std.specs.Prelude.{◌⊎◌, slice_index, slice_index_or}
use Rattle.std.proofs.Math.Nat.{mul-le-mul_left}
use Rattle.std.proofs.lemmas.Bool.{cases_lt, cases_eq}
use Rattle.std.proofs.lemmas.List.{get_or_past}
use Rattle.cg_model.specs.Kernel.{Kernel, IsKernel, node, size}
use Rattle.cg_model.specs.Array.{Arch}
use Rattle.cg_recur.specs.Edges.{latency}
use Rattle.cg_bound_registers.specs.declared.certificate.Stay.{Stay as StayEdge}
use Rattle.cg_bound_registers.specs.declared.certificate.Pull.{Pull as PullEdge}
use Rattle.cg_bound_registers.specs.declared.certificate.Tie.{Tie as TieEdge}
use Rattle.cg_bound_registers.specs.declared.certificate.Pressure.{Pressure}
use Rattle.cg_bound_registers.specs.Pressure.{on_edge, data_edge, order_edge, stays, pulls, ties, from, into, one_if, total, most_latency, gained, lost, registers, IsBalanced, IsExcess, IsPressure}
use Rattle.cg_bound_registers.proofs.Totals.{total_same, total_le, total_zero, total_sum, total_times}
use Rattle.cg_bound_flow.specs.declared.network.Link.{Link}
use Rattle.cg_bound_flow.specs.declared.network.Part.{Part}
use Rattle.cg_bound_flow.specs.declared.network.Part.TheVariants.{Least, Stay}
use Rattle.cg_bound_flow.specs.Network.{link, no_link}
use Rattle.cg_bound_flow.specs.Push.{gather, into as into_place, out_of}
use Rattle.cg_bound_flow.specs.Parts.{Stands, AllStand}
use Rattle.cg_bound_flow.specs.Route.{IsCirculation}
use Rattle.cg_bound_flow.specs.Taken.{on_stay, on_pull, on_tie, on_least, on_most, taken, IsTaken}
use Rattle.cg_bound_flow.proofs.Certificates.{weigh_times}
use Rattle.cg_bound_flow.proofs.Circulations.{equal_one}
use Rattle.cg_bound_flow.proofs.Ends.{pick, least_most, known_data, to_time, from_time, to_leaves, from_leaves, to_ends, from_ends, least_gain, most_loss, gains, losses}

-- ---- sums of products

sum_two : (e : ℕ) (x a b c : ℕ → ℕ) → ((k : ℕ) → k < e → a k ≡ b k + c k) → total e (λ k. x k * a k) ≡ total e (λ k. x k * b k) + total e (λ k. x k * c k)
sum_two e x a b c h =
    total_same e (λ k. x k * a k) (λ k. x k * b k + x k * c k) (λ k l. let q = ap (λ z. x k * z) (h k l) in omega arith) ∙ sym (total_sum e (λ k. x k * b k) (λ k. x k * c k))

sum_three : (e : ℕ) (x a b c d : ℕ → ℕ) → ((k : ℕ) → k < e → a k ≡ b k + c k + d k) → total e (λ k. x k * a k) ≡ total e (λ k. x k * b k) + total e (λ k. x k * c k) + total e (λ k. x k * d k)
sum_three e x a b c d h =
    let p = sum_two e x a (λ k. b k + c k) d h in
    let q = sum_two e x (λ k. b k + c k) b c (λ k l. refl) in
    omega arith

sum_four : (e : ℕ) (x a b c d f : ℕ → ℕ) → ((k : ℕ) → k < e → a k ≡ b k + c k + d k + f k) →
    total e (λ k. x k * a k) ≡ total e (λ k. x k * b k) + total e (λ k. x k * c k) + total e (λ k. x k * d k) + total e (λ k. x k * f k)
sum_four e x a b c d f h =
    let p = sum_two e x a (λ k. b k + c k + d k) f h in
    let q = sum_three e x (λ k. b k + c k + d k) b c d (λ k l. refl) in
    omega arith

-- one part of a sum
term_le : (n : ℕ) (f : ℕ → ℕ) (k : ℕ) → k < n → f k ≤ total n f
term_le zero f k l = absurd (omega arith)
term_le (suc n) f k l = ⊎_elim (λ (e : k ≡ n). let q = ap f e in omega arith) (λ ne. let h = term_le n f k (omega (arith, ne)) in omega arith) (cases_eq k n)

-- the order of two sums
swap : (e n : ℕ) (x g : ℕ → ℕ) (m : ℕ → ℕ → ℕ) → total e (λ k. x k * total n (λ w. g w * m w k)) ≡ total n (λ w. g w * total e (λ k. x k * m w k))
swap zero n x g m = sym (total_zero n (λ w. g w * 0) (λ k l. omega arith))
swap (suc e) n x g m =
    let h = swap e n x g m in
    let a : x e * total n (λ w. g w * m w e) ≡ total n (λ w. x e * (g w * m w e)) = sym (total_times n (x e) (λ w. g w * m w e)) in
    let b = total_sum n (λ w. g w * total e (λ k. x k * m w k)) (λ w. x e * (g w * m w e)) in
    let c : total n (λ w. g w * total e (λ k. x k * m w k) + x e * (g w * m w e)) ≡ total n (λ w. g w * (total e (λ k. x k * m w k) + x e * m w e)) =
    total_same n _ _ (λ w l. spread (g w) (total e (λ k. x k * m w k)) (x e) (m w e)) in
    omega arith
  where
    spread : (g t x m : ℕ) → g * t + x * (g * m) ≡ g * (t + x * m)
    spread g t x m = omega arith

total_append : (n m : ℕ) (f : ℕ → ℕ) → total (n + m) f ≡ total n f + total m (λ k. f (n + k))
total_append n zero f = let e : n + zero ≡ n = omega arith in let h = ap (λ j. total j f) e in omega arith
total_append n (suc m) f = let e : n + suc m ≡ suc (n + m) = omega arith in let h = ap (λ j. total j f) e in let r = total_append n m f in omega arith

module _ (n : ℕ) (links : List Link) (flow at : List ℕ) (routed : List Bool) (starts : (k : ℕ) → k < length links → (link links k).from < n + n + n) (stops : (k : ℕ) → k < length links → (link links k).to < n + n + n)
    (circulation : IsCirculation n links flow routed) where
  abbrev E : ℕ
  E = length links

  abbrev x : ℕ → ℕ
  x k = slice_index flow k

  abbrev r : ℕ → ℕ
  r w = one_if (slice_index_or routed w false)

  by_place : (end : Link → ℕ) → ((k : ℕ) → k < length links → end (link links k) < n + n + n) →
      total E (λ k. x k * slice_index at (end (link links k))) ≡ total (n + n + n) (λ p. slice_index at p * gather links flow (λ l. one_if (eqb (end l) p)))
  by_place end within =
      total_same E (λ k. x k * slice_index at (end (link links k))) (λ k. x k * total (n + n + n) (λ p. slice_index at p * one_if (eqb (end (link links k)) p)))
      (λ k l. ap (λ z. x k * z) (sym (pick (n + n + n) (λ p. slice_index at p) (end (link links k)) (within k l))))
      ∙ swap E (n + n + n) x (λ p. slice_index at p) (λ p k. one_if (eqb (end (link links k)) p))

  -- the times at the beginnings of links against those at their ends
  balance : total E (λ k. x k * slice_index at (link links k).to) + total n (λ w. slice_index at (n + w) * r w) ≡ total E (λ k. x k * slice_index at (link links k).from) + total n (λ w. slice_index at (n + n + w) * r w)
  balance =
      let a = by_place (λ l. l.to) stops in
      let b = by_place (λ l. l.from) starts in
      let f : ℕ → ℕ = λ p. slice_index at p * into_place links flow p in
      let g : ℕ → ℕ = λ p. slice_index at p * out_of links flow p in
      let a1 = total_append (n + n) n f in
      let a2 = total_append n n f in
      let b1 = total_append (n + n) n g in
      let b2 = total_append n n g in
      let t : total n f ≡ total n g = total_same n f g (λ w l. ap (λ z. slice_index at w * z) (circulation.times w l)) in
      let s : total n (λ w. f (n + w) + slice_index at (n + w) * r w) ≡ total n (λ w. g (n + w)) =
      total_same n _ _ (λ w l. let h = ap (λ z. slice_index at (n + w) * z) (circulation.leaves w l) in omega arith) in
      let s' = total_sum n (λ w. f (n + w)) (λ w. slice_index at (n + w) * r w) in
      let u : total n (λ w. f (n + n + w)) ≡ total n (λ w. g (n + n + w) + slice_index at (n + n + w) * r w) =
      total_same n _ _ (λ w l. let h = ap (λ z. slice_index at (n + n + w) * z) (circulation.ends w l) in omega arith) in
      let u' = total_sum n (λ w. g (n + n + w)) (λ w. slice_index at (n + n + w) * r w) in
      omega arith

  -- where each link with flow gains at least what it loses
  pub value : (extra longest : ℕ → ℕ) → ((k : ℕ) → k < length links → x k * (slice_index at (link links k).to + (link links k).loss) + extra k ≤ x k * (slice_index at (link links k).from + (link links k).gain)) →
      ((w : ℕ) → w < n → slice_index at (n + w) * r w + longest w ≤ slice_index at (n + n + w) * r w) →
      gather links flow (λ l. l.loss) + total n longest + total E extra ≤ gather links flow (λ l. l.gain)
  value extra longest slack spans =
      let b = balance in
      let t = sum_two E x (λ k. slice_index at (link links k).to + (link links k).loss) (λ k. slice_index at (link links k).to) (λ k. (link links k).loss) (λ k l. refl) in
      let f = sum_two E x (λ k. slice_index at (link links k).from + (link links k).gain) (λ k. slice_index at (link links k).from) (λ k. (link links k).gain) (λ k l. refl) in
      let s = total_le E _ _ slack in
      let s' = total_sum E (λ k. x k * (slice_index at (link links k).to + (link links k).loss)) extra in
      let h = total_le n _ _ spans in
      let h' = total_sum n (λ w. slice_index at (n + w) * r w) longest in
      omega arith

-- ---- the certificate of a circulation

module _ (A : Arch) (K : Kernel) (hops : ℕ → ℕ → ℕ) (ii : ℕ) (good : IsKernel K) (links : List Link) (flow : List ℕ) (routed : List Bool) (right : AllStand A K hops ii links) (circulation : IsCirculation (size K) links flow routed) where
  abbrev part : ℕ → Part
  part k = (link links k).part

  abbrev F : ℕ → ℕ
  F k = slice_index flow k

  abbrev N : ℕ
  N = length links

  abbrev leasts : ℕ → ℕ
  leasts w = total N (λ k. F k * on_least w (part k))

  abbrev mosts : ℕ → ℕ
  mosts w = total N (λ k. F k * on_most w (part k))

  small : (b : Bool) → one_if b ≤ 1
  small true = omega arith
  small false = omega arith

  -- what stays from node w
  into_end : (w : ℕ) → w < size K → total N (λ k. F k * on_stay K (from w) (part k)) ≡ one_if (slice_index_or routed w false)
  into_end w l =
      let a = total_same N (λ k. F k * one_if (eqb (link links k).to (size K + size K + w))) (λ k. F k * on_stay K (from w) (part k)) (λ k m. ap (λ z. F k * z) (to_ends A K hops ii good w l (link links k) (part k) (right k m))) in
      let b = total_zero N (λ k. F k * one_if (eqb (link links k).from (size K + size K + w))) (λ k m. let z = ap (λ z. F k * z) (from_ends A K hops ii good w l (link links k) (part k) (right k m)) in omega arith) in
      let c = circulation.ends w l in
      omega arith

  -- a stay has a flow of at most 1
  pub stay_small : (k v p : ℕ) → (link links k).part ≡ Stay v p → F k ≤ 1
  stay_small k v p e =
      ⊎_elim
      (λ (l : k < N).
      let (a, is, f, t, g, d) = subst (Stands A K hops ii (link links k)) e (right k l) in
      let (ks, kt) = known_data A K hops ii good v p a is in
      let one : on_stay K (from a.source) (part k) ≡ 1 = ap (on_stay K (from a.source)) e ∙ ap (on_edge (from a.source)) is ∙ equal_one a.source a.source refl in
      let b = term_le N (λ j. F j * on_stay K (from a.source) (part j)) k l in
      let c = into_end a.source ks in
      let h = small (slice_index_or routed a.source false) in
      let q = ap (λ z. F k * z) one in
      omega arith)
      (λ (l : N ≤ k). let z : Least 0 ≡ Stay v p = sym (ap (λ (y : Link). y.part) (get_or_past links k no_link l)) ∙ e in absurd (cc))
      (cases_lt k N)

  module _ (P : Pressure) (is : IsTaken K links flow P) where
    -- at the places of node w
    pub at_time : (w : ℕ) → w < size K → pulls K P (into w) + ties K P (into w) + mosts w ≡ stays K P (into w) + ties K P (from w) + leasts w
    at_time w l =
        let a = sum_three N F (λ k. one_if (eqb (link links k).to w)) (λ k. on_pull K (into w) (part k)) (λ k. on_tie K (into w) (part k)) (λ k. on_most w (part k)) (λ k m. to_time A K hops ii good w l (link links k) (part k) (right k m)) in
        let b = sum_three N F (λ k. one_if (eqb (link links k).from w)) (λ k. on_stay K (into w) (part k)) (λ k. on_tie K (from w) (part k)) (λ k. on_least w (part k)) (λ k m. from_time A K hops ii good w l (link links k) (part k) (right k m)) in
        let c = circulation.times w l in
        let d = is.on_pulls (into w) in
        let e = is.on_ties (into w) in
        let f = is.on_stays (into w) in
        let g = is.on_ties (from w) in
        omega arith

    pub at_leaving : (w : ℕ) → w < size K → leasts w + one_if (slice_index_or routed w false) ≡ pulls K P (from w) + mosts w
    at_leaving w l =
        let a = total_same N (λ k. F k * one_if (eqb (link links k).to (size K + w))) (λ k. F k * on_least w (part k)) (λ k m. ap (λ z. F k * z) (to_leaves A K hops ii good w l (link links k) (part k) (right k m))) in
        let b = sum_two N F (λ k. one_if (eqb (link links k).from (size K + w))) (λ k. on_pull K (from w) (part k)) (λ k. on_most w (part k)) (λ k m. from_leaves A K hops ii good w l (link links k) (part k) (right k m)) in
        let c = circulation.leaves w l in
        let d = is.on_pulls (from w) in
        omega arith

    pub at_end : (w : ℕ) → w < size K → stays K P (from w) ≡ one_if (slice_index_or routed w false)
    at_end w l = is.on_stays (from w) ∙ into_end w l

    pub balanced : IsBalanced K P
    balanced =
        record {
          one = λ w l. let a = at_end w l in let b = small (slice_index_or routed w false) in omega arith;
          circular = λ w l. let a = at_time w l in let b = at_leaving w l in let c = at_end w l in omega arith;
        }

    -- the latencies that are lost and gained
    latencies : lost A K P + total (size K) (λ w. latency A (node K w).op * leasts w) ≤ gained A K P + total (size K) (λ w. most_latency (node K w).op A.units * mosts w)
    latencies =
        let a = total_sum (size K) (λ w. (stays K P (from w) - pulls K P (from w)) * most_latency (node K w).op A.units) (λ w. latency A (node K w).op * leasts w) in
        let b = total_sum (size K) (λ w. (pulls K P (from w) - stays K P (from w)) * latency A (node K w).op) (λ w. most_latency (node K w).op A.units * mosts w) in
        let c = total_le (size K) (λ w. (stays K P (from w) - pulls K P (from w)) * most_latency (node K w).op A.units + latency A (node K w).op * leasts w)
        (λ w. (pulls K P (from w) - stays K P (from w)) * latency A (node K w).op + most_latency (node K w).op A.units * mosts w)
        (λ w l. let d = at_leaving w l in let e = at_end w l in
        either (latency A (node K w).op) (most_latency (node K w).op A.units) (stays K P (from w)) (pulls K P (from w)) (leasts w) (mosts w) (least_most (node K w).op A.units) (omega arith)) in
        omega arith
      where
        either : (l m y z p q : ℕ) → l ≤ m → p + y ≡ z + q → (y - z) * m + l * p ≤ (z - y) * l + m * q
        either l m y z p q h e =
            ⊎_elim
            (λ (b : y < z).
            let d : y - z ≡ 0 = omega arith in
            let d' = ap (λ t. t * m) d in
            let s : p ≡ (z - y) + q = omega arith in
            let s' = ap (λ t. l * t) s in
            let k = mul-le-mul_left {m = l} {n = m} q h in
            omega arith)
            (λ (b : z ≤ y).
            let d : z - y ≡ 0 = omega arith in
            let d' = ap (λ t. t * l) d in
            let s : q ≡ p + (y - z) = omega arith in
            let s' = ap (λ t. m * t) s in
            let k = mul-le-mul_left {m = l} {n = m} p h in
            omega arith)
            (cases_lt y z)

    pub excess : ii * registers A + gather links flow (λ l. l.loss) < gather links flow (λ l. l.gain) → IsExcess A K hops ii P
    excess h =
        let a = sum_four N F (λ k. (link links k).gain) (λ k. on_pull K (λ a. hops a.target a.arg) (part k)) (λ k. on_stay K (λ a. ii * a.distance) (part k)) (λ k. on_tie K (λ a. 1) (part k)) (λ k. least_gain A K hops ii good (part k))
        (λ k m. gains A K hops ii good (link links k) (part k) (right k m)) in
        let b = sum_three N F (λ k. (link links k).loss) (λ k. on_pull K (λ a. ii * a.distance) (part k)) (λ k. on_tie K (λ a. ii * a.distance) (part k)) (λ k. most_loss A K hops ii good (part k))
        (λ k m. losses A K hops ii good (link links k) (part k) (right k m)) in
        let c = swap N (size K) F (λ w. latency A (node K w).op) (λ w k. on_least w (part k)) in
        let d = swap N (size K) F (λ w. most_latency (node K w).op A.units) (λ w k. on_most w (part k)) in
        let e = latencies in
        let f = is.on_pulls (λ a. hops a.target a.arg) in
        let g = is.on_stays (λ a. ii * a.distance) in
        let i = is.on_ties (λ a. 1) in
        let j = is.on_pulls (λ a. ii * a.distance) in
        let k = is.on_ties (λ a. ii * a.distance) in
        let g' = weigh_times (λ (s : StayEdge). 1) (λ s. data_edge K s.node s.arg) (λ a. a.distance) ii P.stays.items in
        let j' = weigh_times (λ (x : PullEdge). x.weight) (λ x. data_edge K x.node x.arg) (λ a. a.distance) ii P.pulls.items in
        let k' = weigh_times (λ (x : TieEdge). x.weight) (λ x. order_edge K x.edge) (λ a. a.distance) ii P.ties.items in
        omega arith

    pub certifies : ii * registers A + gather links flow (λ l. l.loss) < gather links flow (λ l. l.gain) → IsPressure A K hops ii P
    certifies h = record { balanced = balanced; excess = excess h }
