-- A kernel needs one list of edges.
use Rattle.std.proofs.Common.{◌≡◌, ℕ, List, [], ◌∷◌, Option, Some, None, refl, sym, ap, ◌∙◌, subst, ⊎_elim}
use Rattle.std.proofs.lemmas.Bool.{cases_order}
use Rattle.cg_model.specs.declared.kernel.OrderEdge.{OrderEdge}
use Rattle.cg_model.specs.Kernel.{Kernel}
use Rattle.cg_depend.specs.Affine.{AffinePair}
use Rattle.cg_depend.specs.Depend.{Ask, asks, Gap, never, first, unknown, HaveOneStride, Meets, Within, Added, none, apart, chained, added, distance_for, edge_for, with_order, AreNeeded, IsDepend}

same_meets : (K : Kernel) (a : Ask) (p q p' q' : AffinePair) (x : ℕ) → HaveOneStride K a p q → HaveOneStride K a p' q' → Meets p' q' x → Meets p q x
same_meets K a p q p' q' x s t m =
    let e : p' ≡ p = let z = sym t.of_source ∙ s.of_source in cc in
    let f : q' ≡ q = let z = sym t.of_target ∙ s.of_target in cc in
    subst (λ y. Meets y q x) e (subst (λ y. Meets p' y x) f m)

pub gap_unique : (K : Kernel) (a : Ask) (o o' : Option ℕ) → Gap K a o → Gap K a o' → o ≡ o'
gap_unique K a None None (never p q s n) g = refl
gap_unique K a None (Some y) (never p q s n) (first p' q' x t l m e k) = absurd (n x l m (same_meets K a p q p' q' x s t e))
gap_unique K a None (Some y) (never p q s n) (unknown k) = absurd (k p q s)
gap_unique K a (Some y) None (first p q x s l m e k) (never p' q' t n) = absurd (n x l m (same_meets K a p' q' p q x t s e))
gap_unique K a (Some y) (Some z) (first p q x s l m e k) (first p' q' x' t l' m' e' k') =
    ap Some
    (⊎_elim (λ u. u) (λ h. ⊎_elim (λ u. absurd (k' x l u (same_meets K a p' q' p q x t s e))) (λ u. absurd (k x' l' u (same_meets K a p q p' q' x' s t e'))) h) (cases_order x x'))
gap_unique K a (Some y) (Some z) (first p q x s l m e k) (unknown n) = absurd (n p q s)
gap_unique K a (Some y) None (unknown n) (never p q s k) = absurd (n p q s)
gap_unique K a (Some y) (Some z) (unknown n) (first p q x s l m e k) = absurd (n p q s)
gap_unique K a (Some y) (Some z) (unknown n) (unknown m) = refl

added_unique : (K : Kernel) (qs : List Ask) (es fs : List OrderEdge) → Added K qs es → Added K qs fs → es ≡ fs
added_unique K [] [] [] none none = refl
added_unique K [] [] (f ∷ fs) none b = elim b [ ]
added_unique K [] (e ∷ es) fs a b = elim a [ ]
added_unique K (q ∷ qs) es fs (apart g a) (apart h b) = added_unique K qs es fs a b
added_unique K (q ∷ qs) es fs (apart g a) (chained n h c b) = absurd (let z = gap_unique K q None (Some n) g h in cc)
added_unique K (q ∷ qs) es (f ∷ fs) (apart g a) (added n h c b) = absurd (let z = gap_unique K q None (Some n) g h in cc)
added_unique K (q ∷ qs) es fs (chained n h c a) (apart g b) = absurd (let z = gap_unique K q None (Some n) g h in cc)
added_unique K (q ∷ qs) es fs (chained n h c a) (chained m g d b) = added_unique K qs es fs a b
added_unique K (q ∷ qs) es (f ∷ fs) (chained n h c a) (added m g d b) = absurd (let z : n ≡ m = let y = gap_unique K q (Some n) (Some m) h g in cc in d (subst (λ y. Within K q.source q.target (distance_for y)) z c))
added_unique K (q ∷ qs) (e ∷ es) fs (added n h c a) (apart g b) = absurd (let z = gap_unique K q None (Some n) g h in cc)
added_unique K (q ∷ qs) (e ∷ es) fs (added n h c a) (chained m g d b) = absurd (let z : m ≡ n = let y = gap_unique K q (Some m) (Some n) g h in cc in c (subst (λ y. Within K q.source q.target (distance_for y)) z d))
added_unique K (q ∷ qs) (e ∷ es) (f ∷ fs) (added n h c a) (added m g d b) =
    let z : n ≡ m = let y = gap_unique K q (Some n) (Some m) h g in cc in
    ap (λ y. edge_for q y ∷ es) z ∙ ap (λ y. edge_for q m ∷ y) (added_unique K qs es fs a b)

pub one_list : (K : Kernel) (es fs : List OrderEdge) → AreNeeded K es → AreNeeded K fs → es ≡ fs
one_list K es fs a b = added_unique K (asks K) es fs a b

pub one_kernel : (K L M : Kernel) → IsDepend K L → IsDepend K M → L ≡ M
one_kernel K L M a b = a.1 ∙ ap (with_order K) (one_list K a.0 b.0 a.2 b.2) ∙ sym b.1
