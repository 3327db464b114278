-- Each valid kernel has the edges that it needs.
use Rattle.std.proofs.Common.{◌≡◌, ℕ, suc, ◌≤◌, ◌+◌, ◌*◌, ◌%◌, List, [], ◌∷◌, Option, Some, None, refl, sym, ap, ◌∙◌, arith, ⊎_elim, inl, inr}
use Rattle.std.specs.Prelude.{slice_get}
use Rattle.std.proofs.lemmas.Bool.{cases_eq, cases_lt}
use Rattle.cg_word.specs.declared.op.Op.TheVariants.{Sub}
use Rattle.cg_word.specs.Word.{words, apply_of}
use Rattle.cg_model.specs.Limits.{most_turns}
use Rattle.cg_model.specs.declared.kernel.OrderEdge.{OrderEdge}
use Rattle.cg_model.specs.Kernel.{Kernel, IsKernel}
use Rattle.cg_distance.proofs.Searches.{Decided, both_decided, first_below}
use Rattle.cg_distance.proofs.Decided.{ordered_decided}
use Rattle.cg_depend.specs.Affine.{AffinePair, address_pair}
use Rattle.cg_depend.specs.Depend.{Ask, asks, HaveOneStride, Meets, Gap, never, first, unknown, Within, Added, none, apart, chained, added, distance_for, edge_for, AreNeeded}
use Rattle.cg_depend.proofs.Valid.{ask_in}

-- x is a number of turns after which the target may reach the word
abbrev Answers : Ask → AffinePair → AffinePair → ℕ → Type 0
Answers a p q x = (a.least ≤ x) × Meets p q x

answer_decided : (a : Ask) (p q : AffinePair) (x : ℕ) → Decided (Answers a p q x)
answer_decided a p q x =
    both_decided (a.least ≤ x) (Meets p q x) (⊎_elim (λ l. inr (λ h. omega arith)) (λ l. inl l) (cases_lt x a.least)) (cases_eq ((p.stride * x) % words) (apply_of Sub p.base q.base 0))

-- the least one, where the addresses have one stride
solved : (K : Kernel) (a : Ask) (p q : AffinePair) → HaveOneStride K a p q → (o : Option ℕ) × Gap K a o
solved K a p q same =
    ⊎_elim
    (λ f. let h = f.1.holds in (Some f.0, first p q f.0 same h.0 f.1.within h.1 (λ y l b m. let w = f.1.within in let k : f.0 ≤ y = f.1.least y (omega arith) (l, m) in omega arith)))
    (λ no. (None, never p q same (λ x l m e. no x m (l, e))))
    (first_below (Answers a p q) most_turns (λ x l. answer_decided a p q x))

by_pairs : (K : Kernel) (a : Ask) (s t : Option AffinePair) → address_pair K a.source ≡ s → address_pair K a.target ≡ t → (o : Option ℕ) × Gap K a o
by_pairs K a None t es et = (Some a.least, unknown (λ p q h. let z = sym es ∙ h.of_source in cc))
by_pairs K a (Some p) None es et = (Some a.least, unknown (λ p' q' h. let z = sym et ∙ h.of_target in cc))
by_pairs K a (Some p) (Some q) es et =
    ⊎_elim
    (λ e. solved K a p q (record { of_source = es; of_target = et; one = e }))
    (λ ne. (
      Some a.least,
      unknown (λ p' q' h.
          let e : p ≡ p' = let z = sym es ∙ h.of_source in cc in
          let f : q ≡ q' = let z = sym et ∙ h.of_target in cc in
          ne (ap (λ (r : AffinePair). r.stride) e ∙ h.one ∙ sym (ap (λ (r : AffinePair). r.stride) f))),
    ))
    (cases_eq p.stride q.stride)

-- each question has a gap, or never one
pub gap_of : (K : Kernel) (a : Ask) → (o : Option ℕ) × Gap K a o
gap_of K a = by_pairs K a (address_pair K a.source) (address_pair K a.target) refl refl

-- whether a chain leads from a node to another one within a distance
pub within_decided : (K : Kernel) → IsKernel K → (u v most : ℕ) → (u ≡ v → ⊥) → Decided (Within K u v most)
within_decided K good u v most distinct =
    ⊎_elim
    (λ o. inl (⊎_elim (λ h. absurd (distinct h.0)) (λ c. let l : 0 + c.0 ≤ most = c.2 in (c.0, c.1, omega arith)) o))
    (λ no. inr (λ w. let l : w.0 ≤ most = w.2 in no (inr (w.0, w.1, omega arith))))
    (ordered_decided K good u 0 v most)

one_more : (K : Kernel) → IsKernel K → (a : Ask) (qs : List Ask) → (a.source ≡ a.target → ⊥) → (o : Option ℕ) → Gap K a o → (es : List OrderEdge) → Added K qs es → (fs : List OrderEdge) × Added K (a ∷ qs) fs
one_more K good a qs distinct None gap es made = (es, apart gap made)
one_more K good a qs distinct (Some g) gap es made =
    ⊎_elim (λ w. (es, chained g gap w made)) (λ no. (edge_for a g ∷ es, added g gap no made)) (within_decided K good a.source a.target (distance_for g) distinct)

some_added : (K : Kernel) → IsKernel K → (qs : List Ask) → ((k : ℕ) (a : Ask) → slice_get qs k ≡ Some a → a.source ≡ a.target → ⊥) → (es : List OrderEdge) × Added K qs es
some_added K good [] distinct = ([], none)
some_added K good (a ∷ qs) distinct =
    let gap = gap_of K a in
    let rest = some_added K good qs (λ k. distinct (suc k)) in
    one_more K good a qs (distinct 0 a refl) gap.0 gap.1 rest.0 rest.1

pub some_list : (K : Kernel) → IsKernel K → (es : List OrderEdge) × AreNeeded K es
some_list K good = some_added K good (asks K) (λ k a h. (ask_in K a (k, h)).distinct)
