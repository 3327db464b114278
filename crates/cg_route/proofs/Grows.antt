-- Layers, one more at a time, and what they lead to.
use Rattle.std.proofs.Common.{◌≡◌, ℕ, zero, suc, ◌+◌, ◌-◌, ◌*◌, ◌<◌, ◌≤◌, List, [], ◌∷◌, ◌++◌, length, Some, None, refl, sym, ap, ◌∙◌, subst, arith, ⊎_elim}
use Rattle.std.proofs.Math.Seq.{get_or-append_seam}
use Rattle.std.proofs.lemmas.Bool.{cases_lt}
use Rattle.std.proofs.lemmas.List.{length_push, append_assoc, get_or_append_left}
use Rattle.cg_route.specs.Layers.{Step, Sought, Layer, size, rank, at, layer_at, later_at, onward, Drives, delay_into, IsLayer, AreLayers, Leads, Follows}
use Rattle.cg_route.proofs.Ranks.{IsRanked, driven}
use Rattle.cg_route.proofs.Begins.{one_or_none, onward_later}
use Rattle.cg_route.proofs.Chains.{onward_is, chosen}

layer_front : (ls : List Layer) (x : Layer) (k : ℕ) → k < length ls → layer_at (ls ++ x ∷ []) k ≡ layer_at ls k
layer_front ls x k h = get_or_append_left ls (x ∷ []) [] k h

pub layer_end : (ls : List Layer) (x : Layer) (k : ℕ) → k ≡ length ls → layer_at (ls ++ x ∷ []) k ≡ x
layer_end ls x k e = ap (layer_at (ls ++ x ∷ [])) e ∙ get_or-append_seam ls x [] []

pub later_is : (ls : List Layer) (k : ℕ) → 0 < k → later_at ls k ≡ layer_at ls (k - 1)
later_is ls zero h = absurd (omega arith)
later_is ls (suc k) h = ap (layer_at ls) (omega arith)

later_front : (ls : List Layer) (x : Layer) (k : ℕ) → k ≤ length ls → later_at (ls ++ x ∷ []) k ≡ later_at ls k
later_front ls x zero h = refl
later_front ls x (suc k) h = layer_front ls x k (omega arith)

module _ (S : Sought) where
  pub layers_none : AreLayers S []
  layers_none = record { each = λ k t a b. absurd (omega (arith, a)) }

  pub layers_more : (ls : List Layer) (x : Layer) (k t : ℕ) → k ≡ length ls → k + t ≡ S.end → AreLayers S ls → IsLayer S k t (later_at ls k) x → AreLayers S (ls ++ x ∷ [])
  layers_more ls x k t is time h new =
      record {
        each = λ j u a b.
            ⊎_elim
            (λ (c : j < length ls).
            subst (λ l. IsLayer S j u (later_at (ls ++ x ∷ []) j) l) (sym (layer_front ls x j c))
            (subst (λ l. IsLayer S j u l (layer_at ls j)) (sym (later_front ls x j (omega arith))) (h.each j u c b)))
            (λ (c : length ls ≤ j).
            let z : k ≡ j = (let y = length_push ls x in omega arith) in
            let y : t ≡ u = omega arith in
            subst (λ l. IsLayer S j u (later_at (ls ++ x ∷ []) j) l) (sym (layer_end ls x j (omega arith)))
            (subst (λ l. IsLayer S j u l x) (sym (later_front ls x j (omega arith)))
            (subst (λ i. IsLayer S i u (later_at ls i) x) z (subst (λ w. IsLayer S k w (later_at ls k) x) y new))))
            (cases_lt j (length ls));
      }

  pub leads : (ls : List Layer) (last : ℕ) → length ls ≡ last + 1 → last ≤ S.end → AreLayers S ls → Leads S ls
  leads ls last all le h =
      record {
        onward = λ k q s a b is further.
            let c = chosen S ls h k (S.end - k) q s b a (omega arith) further is in
            let near : delay_into S s.next ≤ k =
            ⊎_elim (λ (y : delay_into S s.next ≡ 0). omega (arith, y))
            (λ (y : delay_into S s.next ≡ 1).
            ⊎_elim (λ (w : 0 < k). omega (arith, y))
            (λ (w : k ≤ 0).
            let v : k ≡ 0 = omega arith in
            let u : onward S (layer_at ls k) (later_at ls k) s.next ≡ None = onward_later S (layer_at ls k) (later_at ls k) s.next y ∙ ap (λ j. at (later_at ls j) s.next) v in
            let t = c.goes_on in absurd (cc)) (cases_lt 0 k))
            (one_or_none S s.next) in
            (c.next, near, (c.after, sym (onward_is S ls h s.next k near) ∙ c.goes_on));
      }

-- a step along the chain
pub follows_more : (S : Sought) (ls : List Layer) (last from k q : ℕ) (pre : List ℕ) (s : Step) → ((q ≡ S.to) × (k ≡ 0) → ⊥) → delay_into S s.next ≤ k →
    at (layer_at ls k) q ≡ Some s → ((rest : List ℕ) → Follows S ls k q rest → Follows S ls last from (pre ++ rest)) →
    (rest : List ℕ) → Follows S ls (k - delay_into S s.next) s.next rest → Follows S ls last from ((pre ++ s.next ∷ []) ++ rest)
follows_more S ls last from k q pre s further near is h rest f = rw append_assoc (h (s.next ∷ rest) (further, near, s, is, refl, f))

steps_fall : (k n a b d : ℕ) → d ≤ 1 → d ≤ k → (d ≡ 0 → a < b) → b < n → a < n → (k - d) * n + (n - b) < k * n + (n - a)
steps_fall k n a b zero u v w x y = let z : k - 0 ≡ k = omega arith in let c = w refl in rw z (omega arith)
steps_fall zero n a b (suc zero) u v w x y = absurd (omega arith)
steps_fall (suc k) n a b (suc zero) u v w x y = let z : suc k - 1 ≡ k = omega arith in rw z (omega arith)
steps_fall k n a b (suc (suc d)) u v w x y = absurd (omega arith)

-- it comes nearer to the end
pub step_falls : (S : Sought) → IsRanked S → (k q x : ℕ) → q < size S → Drives S q x → delay_into S x ≤ k →
    (k - delay_into S x) * size S + (size S - rank S x) < k * size S + (size S - rank S q)
step_falls S ranked k q x known m near =
    steps_fall k (size S) (rank S q) (rank S x) (delay_into S x) (⊎_elim (λ (a : delay_into S x ≡ 0). omega (arith, a)) (λ (a : delay_into S x ≡ 1). omega (arith, a)) (one_or_none S x)) near
    (λ z. ranked.rises q x m z) (ranked.placed x (driven S q x m)).0 (ranked.placed q known).0
