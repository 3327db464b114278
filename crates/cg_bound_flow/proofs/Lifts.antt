-- Places that rise together keep the links.
use Rattle.std.proofs.Common.{◌≡◌, ℕ, zero, suc, ◌+◌, ◌-◌, ◌*◌, ◌^◌, ◌<◌, ◌≤◌, List, length, sym, ap, ◌∙◌, subst, arith, ⊎_elim}
use Rattle.std.specs.Prelude.{◌⊎◌, slice_index}
use Rattle.std.proofs.lemmas.Bool.{cases_eq, cases_lt}
use Rattle.cg_bound_flow.specs.declared.network.Link.{Link}
use Rattle.cg_bound_flow.specs.declared.reach.Step.{Step}
use Rattle.cg_bound_flow.specs.declared.reach.Reached.{Reached}
use Rattle.cg_bound_flow.specs.declared.chains.Chain.{Chain}
use Rattle.cg_bound_flow.specs.Chains.{IsChain, begin_of}
use Rattle.cg_bound_flow.specs.Network.{link, IsGraph, IsTight, AreKept}
use Rattle.cg_bound_flow.specs.Reach.{step, IsLog, IsClosed, IsReached}
use Rattle.cg_bound_flow.specs.Lift.{LetsRise, IsRisen, IsLifting}
use Rattle.cg_bound_flow.proofs.Logs.{few_steps}

-- a place is reached or not
is_reached : (order : List ℕ) (x : ℕ) → (0 < slice_index order x) ⊎ (slice_index order x ≤ 0)
is_reached order x = cases_lt 0 (slice_index order x)

pub rises_less : (links : List Link) (at order : List ℕ) (by by' k : ℕ) → LetsRise links at order by k → by' ≤ by → LetsRise links at order by' k
rises_less links at order by by' k h l = λ f t. let a = h f t in omega arith

-- the room over one link of a place more
pub room_more : (links : List Link) (at order : List ℕ) (n place count more k more' by by' : ℕ) (c : Chain) → IsChain (begin_of links) n (length links) c → more ≤ length links → more ≡ k + 1 → (link links k).from ≡ place → more' ≡ slice_index c.earlier.items k → by' ≤ by →
    ((j : ℕ) → more ≤ j → j < count → j < length links → (link links j).from ≡ place → LetsRise links at order by j) → (k < count → LetsRise links at order by' k) →
    (j : ℕ) → more' ≤ j → j < count → j < length links → (link links j).from ≡ place → LetsRise links at order by' j
room_more links at order n place count more k more' by by' c chain within e here q less old new j l m inside p =
    ⊎_elim
    (λ (below : j < more).
    ⊎_elim
    (λ (same : j ≡ k). subst (λ (i : ℕ). LetsRise links at order by' i) (sym same) (new (omega arith)))
    (λ ne. let h = chain.between k j (omega arith) (omega (arith, ne)) (p ∙ sym here) in absurd (omega arith))
    (cases_eq j k))
    (λ (above : more ≤ j). rises_less links at order by by' j (old j above m inside p) less)
    (cases_lt j more)

module _ (links : List Link) (flow at : List ℕ) (graph : IsGraph (length at) links) where
  -- a step rises by at most 2^32
  climbs : (steps : List Step) (order : List ℕ) → IsLog links flow at steps order → (n i : ℕ) → i < n → i < length steps → slice_index at (step steps i).place ≤ slice_index at (step steps 0).place + i * 2 ^ 32
  climbs steps order log zero i l m = absurd (omega arith)
  climbs steps order log (suc n) zero l m = omega arith
  climbs steps order log (suc n) (suc i) l m =
      let v = log.moves (suc i) (omega arith) m in
      let e = v.earlier in
      let r = climbs steps order log n (step steps (suc i)).before (omega arith) (omega arith) in
      let t = v.tight in
      let g = graph.gains (step steps (suc i)).link v.known in
      let d = graph.losses (step steps (suc i)).link v.known in
      ⊎_elim
      (λ (a, b, c). let b' = ap (slice_index at) b in let c' = ap (slice_index at) c in omega arith)
      (λ (a, b, c, f). let b' = ap (slice_index at) b in let c' = ap (slice_index at) c in omega arith)
      v.ends

  -- so a place that is reached is at most 2^44 above the start
  pub near_start : (start goal count : ℕ) (r : Reached) → IsReached links count flow at start goal r → (x : ℕ) → 0 < slice_index r.order.items x → slice_index at x ≤ slice_index at start + 2 ^ 44
  near_start start goal count r reached x h =
      let (i, l, m, p) = reached.log.marked x h in
      let c = climbs r.steps.items r.order.items reached.log (suc i) i (omega arith) l in
      let f = few_steps links flow at r.steps.items r.order.items reached.log in
      let n = graph.few in
      let p' = ap (slice_index at) p in
      let s = ap (slice_index at) reached.first in
      omega arith

  -- the links out of the places that are reached aren't tight
  pub opens : (count : ℕ) (order : List ℕ) → AreKept links count flow at → IsClosed links count flow at order → (k : ℕ) → k < count → LetsRise links at order 1 k
  opens count order kept closed k l from to =
      let (h, t) = kept k l in
      ⊎_elim
      (λ (a : slice_index at (link links k).from + (link links k).gain < slice_index at (link links k).to + (link links k).loss). omega arith)
      (λ (a : slice_index at (link links k).to + (link links k).loss ≤ slice_index at (link links k).from + (link links k).gain).
      let e : IsTight at (link links k) = omega arith in let d = (closed k l e).0 from in absurd (omega arith))
      (cases_lt (slice_index at (link links k).from + (link links k).gain) (slice_index at (link links k).to + (link links k).loss))

  pub kept_risen : (count by : ℕ) (order at' : List ℕ) → AreKept links count flow at → IsClosed links count flow at order → ((k : ℕ) → k < count → LetsRise links at order by k) → IsRisen order at by at' →
      AreKept links count flow at'
  kept_risen count by order at' kept closed rises risen k l =
      let (h, t) = kept k l in
      let c = closed k l in
      let from = (link links k).from in
      let to = (link links k).to in
      ⊎_elim
      (λ (a : 0 < slice_index order from).
      let f = risen.risen from a in
      ⊎_elim
      (λ (b : 0 < slice_index order to). let g = risen.risen to b in (omega arith, λ p. let q = t p in omega arith))
      (λ (b : slice_index order to ≤ 0). let b' : slice_index order to ≡ 0 = omega arith in let g = risen.still to b' in let s = rises k l a b' in (omega arith, λ p. let d = (c (t p)).0 a in absurd (omega arith)))
      (is_reached order to))
      (λ (a : slice_index order from ≤ 0).
      let a' : slice_index order from ≡ 0 = omega arith in
      let f = risen.still from a' in
      ⊎_elim
      (λ (b : 0 < slice_index order to). let g = risen.risen to b in (omega arith, λ p. let d = (c (t p)).1 p b in absurd (omega arith)))
      (λ (b : slice_index order to ≤ 0). let b' : slice_index order to ≡ 0 = omega arith in let g = risen.still to b' in (omega arith, λ p. let q = t p in omega arith))
      (is_reached order to))
      (is_reached order from)

module _ (links : List Link) (count : ℕ) (flow at : List ℕ) (start goal need : ℕ) (graph : IsGraph (length at) links) (near : slice_index at start + need ≤ slice_index at goal + 2 ^ 33) (at' : List ℕ) (left : ℕ) (now : IsLifting links count flow at start goal need at' left) where
  pub graph_now : IsGraph (length at') links
  graph_now = subst (λ n. IsGraph n links) (sym now.each) graph

  pub low : (most : ℕ) → ((x : ℕ) → slice_index at x ≤ most) → (r : Reached) (by : ℕ) → IsReached links count flow at' start goal r → by ≤ left → (x : ℕ) → 0 < slice_index r.order.items x → slice_index at' x + by ≤ most + 2 ^ 45
  low most h r by reached l x o =
      let a = near_start links flow at' graph_now start goal count r reached x o in
      let b = now.rest in
      let c = h goal in
      omega (arith, near)

  pub lifted_more : (r : Reached) (by : ℕ) (at'' : List ℕ) (left' : ℕ) → IsReached links count flow at' start goal r → slice_index r.order.items goal ≡ 0 → by ≤ left → ((k : ℕ) → k < count → LetsRise links at' r.order.items by k) →
      IsRisen r.order.items at' by at'' → length at'' ≡ length at' → left' ≡ left - by → IsLifting links count flow at start goal need at'' left'
  lifted_more r by at'' left' reached none l rises risen each e =
      record {
        kept = kept_risen links flow at' graph_now count by r.order.items at'' now.kept (reached.closed none) rises risen;
        each = each ∙ now.each;
        near = λ most h x. ⊎_elim
            (λ (o : 0 < slice_index r.order.items x). let a = low most h r by reached l x o in let b = risen.risen x o in omega arith)
            (λ (o : slice_index r.order.items x ≤ 0). let o' : slice_index r.order.items x ≡ 0 = omega arith in let a = now.near most h x in let b = risen.still x o' in omega arith)
            (is_reached r.order.items x);
        fixed = risen.still goal none ∙ now.fixed;
        rest = (let m = reached.log.marks 0 reached.some in let p = ap (slice_index r.order.items) reached.first in let a = risen.risen start (omega arith) in let b = now.rest in omega arith);
      }
