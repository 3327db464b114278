-- Links that are kept one after another, and values that are routed.
use Rattle.std.proofs.Common.{◌≡◌, ℕ, ◌+◌, ◌-◌, ◌*◌, ◌^◌, ◌<◌, ◌≤◌, List, length, eqb, Option, Some, None, refl, sym, ap, ◌∙◌, subst, arith, ⊎_elim, below_more}
use Rattle.std.specs.Prelude.{◌⊎◌, slice_index}
use Rattle.cg_bound_registers.specs.Pressure.{one_if}
use Rattle.cg_bound_flow.specs.declared.network.Link.{Link}
use Rattle.cg_bound_flow.specs.declared.reach.Reached.{Reached}
use Rattle.cg_bound_flow.specs.declared.settle.Blocked.{Blocked}
use Rattle.cg_bound_flow.specs.Network.{link, IsGraph, IsKept, IsTight, AreKept}
use Rattle.cg_bound_flow.specs.Reach.{step}
use Rattle.cg_bound_flow.specs.Lift.{IsLifted}
use Rattle.cg_bound_flow.specs.Push.{into, out_of, IsPushed}
use Rattle.cg_bound_flow.specs.Route.{IsSettling, IsSettled, IsRouted}

module _ (links : List Link) (flow : List ℕ) (n : ℕ) (idle : (k : ℕ) → slice_index flow k ≡ 0) where
  pub settling_begins : (at : List ℕ) → length at ≡ n → ((x : ℕ) → slice_index at x ≡ 0) → IsSettling links flow n 0 at
  settling_begins at e zeros = record { kept = λ k l. absurd (omega arith); each = e; near = λ x. let z = zeros x in omega arith }

  kept_next : (k : ℕ) (at : List ℕ) → AreKept links k flow at → IsKept at (link links k) → AreKept links (k + 1) flow at
  kept_next k at kept here = below_more (λ j. IsKept at (link links j) × (0 < slice_index flow j → IsTight at (link links j))) k kept (here, λ p. let z = idle k in absurd (omega arith))

  pub settling_kept : (k : ℕ) (at : List ℕ) → IsSettling links flow n k at → slice_index at (link links k).from + (link links k).gain ≤ slice_index at (link links k).to + (link links k).loss → IsSettling links flow n (k + 1) at
  settling_kept k at s here = record { kept = kept_next k at s.kept here; each = s.each; near = λ x. let h = s.near x in omega arith }

  module _ (k need : ℕ) (at at' : List ℕ) (s : IsSettling links flow n k at) (low : slice_index at (link links k).to + (link links k).loss < slice_index at (link links k).from + (link links k).gain)
      (e : need ≡ (slice_index at (link links k).from + (link links k).gain) - (slice_index at (link links k).to + (link links k).loss)) where
    pub settling_lifted : IsLifted links k flow at (link links k).to (link links k).from need at' None → IsSettling links flow n (k + 1) at'
    settling_lifted l =
        record {
          kept = kept_next k at' l.kept (let a = l.ends in let b = l.fixed in omega (arith, low, e));
          each = l.each ∙ s.each;
          near = λ x. let h = l.near (k * 2 ^ 45) s.near x in omega arith;
        }

    pub settling_blocked : (r : Reached) → k < length links → IsLifted links k flow at (link links k).to (link links k).from need at' (Some r) → IsSettled links flow n at' (Some (record { reached = r; link = k }))
    settling_blocked r m l =
        let (a, b, c) = l.ends in
        let g = l.fixed in
        (m, l.each ∙ s.each, a, b, omega (arith, low, e))

module _ (links : List Link) (flow at : List ℕ) (start goal need : ℕ) (at' : List ℕ) where
  pub routed_one : (r : Reached) (flow' : List ℕ) → IsLifted links (length links) flow at start goal need at' (Some r) → IsPushed links at' flow (step r.steps.items 0).place goal 1 flow' → IsRouted links flow at start goal flow' at'
  routed_one r flow' l p =
      let (reached, b, c) = l.ends in
      record {
        kept = λ k m. let (h, t) = l.kept k m in (h, λ some. ⊎_elim (λ (q : slice_index flow' k ≡ slice_index flow k). t (omega arith)) (λ tight. tight) (p.tight k m));
        each = l.each;
        flows = p.each;
        near = l.near;
        small = p.small;
        balanced = λ x. let h = p.balanced x in let q = ap (λ z. 1 * one_if (eqb z x)) reached.first in omega arith;
      }

  pub never : need ≡ slice_index at goal - slice_index at start + 1 → AreKept links (length links) flow at → ((f t : List ℕ) → AreKept links (length links) f t → slice_index t start ≤ slice_index t goal) →
      IsLifted links (length links) flow at start goal need at' None → ⊥
  never e kept spans l =
      let a = l.ends in
      let b = l.fixed in
      let c = spans flow at kept in
      let d = spans flow at' l.kept in
      omega arith
