-- For each interval there is a certificate or times: by definitions alone. A flow that routes all values is raised over
-- closed chains of moves, until its links are tight, or its certificate is an excess.
use Rattle.std.proofs.Common.{◌≡◌, ℕ, zero, suc, ◌+◌, ◌*◌, ◌^◌, ◌<◌, ◌≤◌, List, length, get_or, Bool, ap, ◌∙◌, arith, inl, inr, ⊎_elim}
use Rattle.std.specs.Prelude.{◌⊎◌, slice_get}
use Rattle.std.proofs.lemmas.Bool.{cases_lt}
use Rattle.std.proofs.lemmas.List.{get_or_default}
use Rattle.cg_word.specs.declared.op.Op.{Op}
use Rattle.cg_model.specs.declared.array.Unit.{Unit}
use Rattle.cg_model.specs.Kernel.{Kernel, IsKernel, size}
use Rattle.cg_model.specs.Array.{Arch, IsArch, unit}
use Rattle.cg_recur.specs.Edges.{latency}
use Rattle.cg_recur.specs.Chain.{distances, latencies}
use Rattle.cg_recur.proofs.Latencies.{latency_small}
use Rattle.cg_recur.proofs.Visits.{tight_or_deep}
use Rattle.cg_recur.proofs.Closing.{closed_chain}
use Rattle.cg_bound_registers.specs.declared.certificate.Pressure.{Pressure}
use Rattle.cg_bound_registers.specs.declared.times.Times.{Times}
use Rattle.cg_bound_registers.specs.Pressure.{most_latency, registers, total, IsPressure}
use Rattle.cg_bound_registers.specs.Sums.{IsShort}
use Rattle.cg_bound_registers.specs.Times.{AreLoose}
use Rattle.cg_bound_flow.specs.Finish.{stay_of}
use Rattle.cg_bound_flow.proofs.Certificates.{short}
use Rattle.cg_bound_flow.proofs.Finished.{most_small, stays_sum, bounded, graph, spans, excess, loose}
use Rattle.cg_bound_flow.specs.declared.network.Link.{Link}
use Rattle.cg_bound_flow.specs.Network.{IsGraph, AreKept}
use Rattle.cg_bound_flow.specs.Push.{gather}
use Rattle.cg_bound_flow.specs.Parts.{IsNetwork}
use Rattle.cg_bound_flow.proofs.Values.{stay_small, certifies}
use Rattle.cg_bound_all.proofs.Networks.{some_network}
use Rattle.cg_bound_all.proofs.Residual.{listed, residual, AreShort, all_within, all_kept}
use Rattle.cg_bound_all.proofs.Sent.{IsSent, sent_along}
use Rattle.cg_bound_all.proofs.Routed.{IsRoutes, all_routed}
use Rattle.cg_bound_all.proofs.Built.{some_certificate, some_schedule}

abbrev pub IsDecided : Arch → Kernel → (ℕ → ℕ → ℕ) → ℕ → Type 0
IsDecided A K hops ii = ((P : Pressure) × IsPressure A K hops ii P × IsShort P) ⊎ ((t : Times) × AreLoose A K hops ii t)

-- a flow that is sent round stays a circulation
routes_on : (n : ℕ) (links : List Link) (flow flow' : List ℕ) (routed : List Bool) (u l d : ℕ) → IsSent links flow flow' u u l d → IsRoutes n links (length links) flow routed → IsRoutes n links (length links) flow' routed
routes_on n links flow flow' routed u l d sent r =
    record {
      flows = sent.each ∙ r.flows;
      marks = r.marks;
      circulation = record {
        times = λ w b. let h = sent.balanced w in let o = r.circulation.times w b in omega arith;
        leaves = λ w b. let h = sent.balanced (n + w) in let o = r.circulation.leaves w b in omega arith;
        ends = λ w b. let h = sent.balanced (n + n + w) in let o = r.circulation.ends w b in omega arith;
      };
      spans = r.spans;
      all = r.all;
    }

module _ (A : Arch) (K : Kernel) (hops : ℕ → ℕ → ℕ) (ii : ℕ) (good : IsKernel K) (links : List Link) (net : IsNetwork A K hops ii links) (bounds : IsGraph (size K + size K + size K) links) (near : AreShort links (size K + size K + size K)) (routed : List Bool) where
  abbrev n : ℕ
  n = size K

  abbrev Routes : List ℕ → Type 0
  Routes flow = IsRoutes n links (length links) flow routed

  -- too much is gained
  exceeds : (flow : List ℕ) → Routes flow → ii * registers A + gather links flow (λ l. l.loss) < gather links flow (λ l. l.gain) → IsDecided A K hops ii
  exceeds flow r much =
      let (P, taken, few) = some_certificate K links flow (λ k v p e. stay_small A K hops ii good links flow routed net.right r.circulation k v p e) bounds.short in
      inl (P, certifies A K hops ii good links flow routed net.right r.circulation P taken much, short (length links) P bounds.short few)

  -- all links with a flow are tight
  tight : (flow at : List ℕ) → Routes flow → AreKept links (length links) flow at → IsDecided A K hops ii
  tight flow at r kept =
      let (t, s) = some_schedule n at routed good.few in
      ⊎_elim
      (λ (l : ii * registers A < total n (stay_of n at routed)). exceeds flow r (excess A K hops ii good links net flow at routed kept r.circulation r.spans r.all bounds l))
      (λ (l : total n (stay_of n at routed) ≤ ii * registers A). let e = stays_sum n at routed t s in inr (t, loose A K hops ii good links net flow at routed kept r.circulation r.spans r.all bounds t s (omega arith)))
      (cases_lt (ii * registers A) (total n (stay_of n at routed)))

  -- as often as the flow may still be raised
  decide : (fuel : ℕ) (flow : List ℕ) → Routes flow → ii * registers A + gather links flow (λ l. l.loss) < gather links flow (λ l. l.gain) + fuel → IsDecided A K hops ii
  decide zero flow r much = exceeds flow r (omega arith)
  decide (suc fuel) flow r much =
      let (es, moves) = residual links flow in
      let inside = all_within links flow (n + n + n) es moves near in
      ⊎_elim
      (λ (time, kept).
      let (at, len, same) = listed (n + n + n) time in
      tight flow at r (all_kept links flow (n + n + n) es time at moves kept near same))
      (λ (log, last, g, deep).
      let (xs, c) = closed_chain es 1 (n + n + n) log last g deep in
      let (u, goes) = c.0.closed in
      let (flow', sent) = sent_along links es xs u u flow r.flows goes (λ i j x y l a b. c.1.apart i j x y l a b) (λ i x e a b. moves.each x e b) in
      let g = sent.gained in
      let l = c.0.long in
      decide fuel flow' (routes_on n links flow flow' routed u (latencies (slice_get es) xs) (distances (slice_get es) xs) sent r) (omega arith))
      (tight_or_deep es 1 (n + n + n) inside)

module _ (A : Arch) (K : Kernel) (hops : ℕ → ℕ → ℕ) (ii : ℕ) (arch : IsArch A) (good : IsKernel K) (near : (v p : ℕ) → hops v p ≤ 4096) (interval : ii ≤ 64) where
  least : (op : Op) → latency A op ≤ 4
  least op = latency_small A op arch

  most : (op : Op) → most_latency op A.units ≤ 4
  most op = most_small op A.units (λ x d l. let h = (arch.latencies x l).1 in let e : (get_or A.units x d).latency ≡ (unit A x).latency = ap (λ (u : Unit). u.latency) (get_or_default A.units x d _ l) in omega arith)

  pub decided : IsDecided A K hops ii
  decided =
      let (links, net) = some_network A K hops ii good in
      let bounds = graph A K hops ii good links net least most (λ v p. let h = near v p in omega arith) interval in
      let narrow = bounded A K hops ii good links net (2 ^ 15) (omega arith) least most (λ v p. let h = near v p in omega arith) interval in
      let (flow, routed, r) = all_routed A K hops ii good links net (spans A K hops ii good links net) in
      decide A K hops ii good links net bounds (λ k l. let (f, t, g, d) = narrow k l in (f, t, omega arith, omega arith)) routed
      (ii * registers A + gather links flow (λ l. l.loss) + 1) flow r (omega arith)
