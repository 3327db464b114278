-- A flow that routes the value of each node with a data edge.
use Rattle.std.proofs.Common.{◌≡◌, ℕ, zero, suc, ◌+◌, ◌-◌, ◌<◌, ◌≤◌, List, length, set, Bool, true, false, refl, sym, ap, ◌∙◌, subst, arith, ⊎_elim}
use Rattle.std.specs.Prelude.{replicate, slice_index, slice_index_or}
use Rattle.std.proofs.lemmas.Bool.{cases_Bool}
use Rattle.std.proofs.lemmas.List.{length-set, length-replicate}
use Rattle.cg_model.specs.Kernel.{Kernel, IsKernel, size}
use Rattle.cg_model.specs.Array.{Arch}
use Rattle.cg_bound_registers.specs.declared.dependence.Dependence.{Dependence}
use Rattle.cg_bound_flow.specs.declared.network.Link.{Link}
use Rattle.cg_bound_flow.specs.declared.network.Part.{Part}
use Rattle.cg_bound_flow.specs.declared.network.Part.TheVariants.{Least, Most, Pull, Stay, Tie}
use Rattle.cg_bound_flow.specs.Network.{link}
use Rattle.cg_bound_flow.specs.Parts.{IsNetwork}
use Rattle.cg_bound_flow.specs.Route.{IsCirculation, IsSpan, HasSpans, AreRouted}
use Rattle.cg_bound_flow.proofs.Circulations.{here, still, of_marked, circulates_more, all_more}
use Rattle.cg_bound_flow.proofs.Finished.{all_zeros, idle_circulates, some_same, stands}
use Rattle.cg_bound_all.proofs.Sent.{IsSent, sent_forth, sent_twice}

-- some values are routed, those of the first `count` links that are stays
pub record IsRoutes (n : ℕ) (links : List Link) (count : ℕ) (flow : List ℕ) (routed : List Bool) : Type 0 where
  pub flows : length flow ≡ length links
  pub marks : length routed ≡ n
  pub circulation : IsCirculation n links flow routed
  pub spans : (w : ℕ) → slice_index_or routed w false ≡ true → IsSpan n links w
  pub all : AreRouted n links count routed

none_routed : (n : ℕ) (links : List Link) → IsRoutes n links 0 (replicate (length links) 0) (replicate n false)
none_routed n links =
    record {
      flows = length-replicate (length links) 0;
      marks = length-replicate n false;
      circulation = idle_circulates n links (replicate (length links) 0) (replicate n false) (λ k. all_zeros (length links) k 0) (λ w. all_zeros n w false);
      spans = λ w h. let bad : false ≡ true = sym (all_zeros n w false) ∙ h in absurd (cc);
      all = λ k v p l e. absurd (omega arith);
    }

-- one value more
routes_more : (n : ℕ) (links : List Link) (flow flow' : List ℕ) (u k l d : ℕ) (routed : List Bool) → slice_index_or routed u false ≡ false → IsSent links flow flow' (n + u) (n + n + u) l d → (link links k).to - (n + n) ≡ u → IsSpan n links u →
    IsRoutes n links k flow routed → IsRoutes n links (k + 1) flow' (set routed u true)
routes_more n links flow flow' u k l d routed fresh sent e span r =
    record {
      flows = sent.each ∙ r.flows;
      marks = length-set routed u true ∙ r.marks;
      circulation = circulates_more n links flow flow' u routed span.0 r.marks fresh sent.balanced r.circulation;
      spans = of_marked n u routed span.0 r.marks (IsSpan n links) span r.spans;
      all = all_more n links k routed (set routed u true) r.all (still n u routed span.0 r.marks) (λ v p q. ap (λ j. slice_index_or (set routed u true) j false) e ∙ here n u routed span.0 r.marks);
    }

routes_same : (n : ℕ) (links : List Link) (k : ℕ) (flow : List ℕ) (routed : List Bool) → IsRoutes n links k flow routed → ((v p : ℕ) → (link links k).part ≡ Stay v p → slice_index_or routed ((link links k).to - (n + n)) false ≡ true) → IsRoutes n links (k + 1) flow routed
routes_same n links k flow routed r here =
    record { flows = r.flows; marks = r.marks; circulation = r.circulation; spans = r.spans; all = all_more n links k routed routed r.all (λ w h. h) here }

-- ---- all

module _ (A : Arch) (K : Kernel) (hops : ℕ → ℕ → ℕ) (ii : ℕ) (good : IsKernel K) (links : List Link) (net : IsNetwork A K hops ii links) (spans : HasSpans (size K) links) where
  abbrev n : ℕ
  n = size K

  abbrev Routes : ℕ → Type 0
  Routes k = (flow : List ℕ) × (routed : List Bool) × IsRoutes n links k flow routed

  -- from where a value leaves, over the pull and the stay of one edge
  sent_round : (k v p u : ℕ) → k < length links → (link links k).part ≡ Stay v p → (link links k).to - (n + n) ≡ u → (flow : List ℕ) → length flow ≡ length links → (flow' : List ℕ) × (l : ℕ) × (d : ℕ) × IsSent links flow flow' (n + u) (n + n + u) l d
  sent_round k v p u l e q flow each =
      let (a, is, f, t, g, h) = stands A K hops ii good links net k l (Stay v p) e in
      let (j, m, pull) = (net.uses v p a is).0 in
      let (b, js, jf, jt, jg, jh) = stands A K hops ii good links net j m (Pull v p) pull in
      let same : a ≡ b = some_same a b (sym is ∙ js) in
      let sources = ap (λ (z : Dependence). z.source) same in
      let targets = ap (λ (z : Dependence). z.target) same in
      let flow1 = set flow j (slice_index flow j + 1) in
      let one = sent_forth links flow each j m in
      let two = sent_forth links flow1 (one.each ∙ each) k l in
      let begin : (link links j).from ≡ n + u = omega arith in
      let meet : (link links j).to ≡ (link links k).from = omega arith in
      let end : (link links k).to ≡ n + n + u = omega arith in
      let flow2 = set flow1 k (slice_index flow1 k + 1) in
      let gain = (link links j).gain + (link links k).gain in
      let loss = (link links j).loss + (link links k).loss in
      let one' = subst (λ z. IsSent links flow flow1 (link links j).from z (link links j).gain (link links j).loss) meet one in
      let both = sent_twice links flow flow1 flow2 (link links j).from (link links k).from (link links k).to (link links j).gain (link links k).gain (link links j).loss (link links k).loss one' two in
      (flow2, gain, loss, subst (λ z. IsSent links flow flow2 z (n + n + u) gain loss) begin (subst (λ z. IsSent links flow flow2 (link links j).from z gain loss) end both))

  route : (k v p : ℕ) → k < length links → (link links k).part ≡ Stay v p → Routes k → Routes (k + 1)
  route k v p l e (flow, routed, r) =
      let u = (link links k).to - (n + n) in
      let (at, span) = spans k v p l e in
      ⊎_elim
      (λ (t : slice_index_or routed u false ≡ true). (flow, routed, routes_same n links k flow routed r (λ x y q. t)))
      (λ (t : slice_index_or routed u false ≡ false).
      let (flow', g, d, sent) = sent_round k v p u l e refl flow r.flows in
      (flow', set routed u true, routes_more n links flow flow' u k g d routed t sent refl span r))
      (cases_Bool (slice_index_or routed u false))

  pass : (k : ℕ) → ((v p : ℕ) → (link links k).part ≡ Stay v p → ⊥) → Routes k → Routes (k + 1)
  pass k other (flow, routed, r) = (flow, routed, routes_same n links k flow routed r (λ v p e. absurd (other v p e)))

  route_link : (k : ℕ) → k < length links → (p : Part) → (link links k).part ≡ p → Routes k → Routes (k + 1)
  route_link k l (Stay v p) e r = route k v p l e r
  route_link k l (Least w) e r = pass k (λ v p q. let bad : Least w ≡ Stay v p = sym e ∙ q in absurd (cc)) r
  route_link k l (Most w) e r = pass k (λ v p q. let bad : Most w ≡ Stay v p = sym e ∙ q in absurd (cc)) r
  route_link k l (Pull x y) e r = pass k (λ v p q. let bad : Pull x y ≡ Stay v p = sym e ∙ q in absurd (cc)) r
  route_link k l (Tie x) e r = pass k (λ v p q. let bad : Tie x ≡ Stay v p = sym e ∙ q in absurd (cc)) r

  routes : (k : ℕ) → k ≤ length links → Routes k
  routes zero l = (replicate (length links) 0, replicate n false, none_routed n links)
  routes (suc k) l = let q : k + 1 ≡ suc k = omega arith in subst Routes q (route_link k (omega arith) (link links k).part refl (routes k (omega arith)))

  pub all_routed : Routes (length links)
  all_routed = routes (length links) (omega arith)
