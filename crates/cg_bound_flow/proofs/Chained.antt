-- Links that are added to chains.
use Rattle.std.proofs.Common.{◌≡◌, ℕ, ◌+◌, ◌<◌, ◌≤◌, List, [], ◌∷◌, ◌++◌, length, get_or, set, refl, sym, ap, ◌∙◌, arith, ⊎_elim}
use Rattle.std.specs.Prelude.{replicate, slice_index}
use Rattle.std.proofs.Math.ListN.{get_or-append}
use Rattle.std.proofs.Math.Seq.{get_or-append_seam}
use Rattle.std.proofs.lemmas.List.{get_or-set_same, get_or-set_other, length-set, length-append, get_or-replicate, length-replicate, get_or_past}
use Rattle.std.proofs.lemmas.Bool.{cases_eq, cases_lt}
use Rattle.cg_bound_flow.specs.declared.chains.Chain.{Chain}
use Rattle.cg_bound_flow.specs.Chains.{IsLinked, IsChain}

repeated : {X : Type 0} (n k : ℕ) (a : X) → get_or (replicate n a) k a ≡ a
repeated n k a = ⊎_elim (λ (l : k < n). get_or-replicate n k a a l) (λ (l : n ≤ k). get_or_past (replicate n a) k a (let h = length-replicate n a in omega arith)) (cases_lt k n)

pub chain_begins : (end : ℕ → ℕ) (n : ℕ) (c : Chain) → c.last.items ≡ replicate n 0 → c.earlier.items ≡ [] → IsChain end n 0 c
chain_begins end n c e f =
    let last : (x : ℕ) → slice_index c.last.items x ≡ 0 = λ x. ap (λ (z : List ℕ). slice_index z x) e ∙ repeated n x 0 in
    let none : (k : ℕ) → slice_index c.earlier.items k ≡ 0 = λ k. ap (λ (z : List ℕ). slice_index z k) f in
    record {
      linked = record { places = ap length e ∙ length-replicate n 0; each = ap length f; within = λ x. let h = last x in omega arith; before = λ k. let h = none k in omega arith };
      first = λ x k q. let h = last x in absurd (omega arith);
      none = λ x k l q. absurd (omega arith);
      next = λ k j l q. absurd (omega arith);
      between = λ k j l m q. absurd (omega arith);
    }

pub linked_as : (end : ℕ → ℕ) (n m : ℕ) (c : Chain) → IsChain end n m c → IsLinked (length c.last.items) (length c.earlier.items) c
linked_as end n m c h = record { places = refl; each = refl; within = λ x. let a = h.linked.within x in let b = h.linked.each in omega arith; before = h.linked.before }

module _ (end : ℕ → ℕ) (n m x : ℕ) (c c' : Chain) (old : IsChain end n m c) (inside : x < n) (here : end m ≡ x) (earlier : c'.earlier.items ≡ c.earlier.items ++ (slice_index c.last.items x ∷ [])) (last : c'.last.items ≡ set c.last.items x (m + 1)) where
  last_here : (y : ℕ) → y ≡ x → slice_index c'.last.items y ≡ m + 1
  last_here y e = ap (λ (z : List ℕ). slice_index z y) last ∙ ap (slice_index (set c.last.items x (m + 1))) e ∙ get_or-set_same c.last.items x (m + 1) 0 (let p = old.linked.places in omega arith)

  last_other : (y : ℕ) → (y ≡ x → ⊥) → slice_index c'.last.items y ≡ slice_index c.last.items y
  last_other y ne = ap (λ (z : List ℕ). slice_index z y) last ∙ get_or-set_other c.last.items x y (m + 1) 0 ne

  earlier_old : (k : ℕ) → k < m → slice_index c'.earlier.items k ≡ slice_index c.earlier.items k
  earlier_old k l = ap (λ (z : List ℕ). slice_index z k) earlier ∙ get_or-append c.earlier.items (slice_index c.last.items x ∷ []) 0 k (let e = old.linked.each in omega arith)

  earlier_new : (k : ℕ) → k ≡ m → slice_index c'.earlier.items k ≡ slice_index c.last.items x
  earlier_new k e = ap (λ (z : List ℕ). slice_index z k) earlier ∙ ap (slice_index (c.earlier.items ++ (slice_index c.last.items x ∷ []))) (e ∙ sym old.linked.each) ∙ get_or-append_seam c.earlier.items (slice_index c.last.items x) [] 0

  longer : length c'.earlier.items ≡ m + 1
  longer = let a = ap length earlier in let b = length-append c.earlier.items (slice_index c.last.items x ∷ []) in let e = old.linked.each in omega arith

  pub added : IsChain end n (m + 1) c'
  added =
      record {
        linked = record {
          places = ap length last ∙ length-set c.last.items x (m + 1) ∙ old.linked.places;
          each = longer;
          within = λ y. ⊎_elim (λ (e : y ≡ x). let h = last_here y e in omega arith) (λ ne. let h = last_other y ne in let w = old.linked.within y in omega arith) (cases_eq y x);
          before = λ k. ⊎_elim
              (λ (l : k < m). let h = earlier_old k l in let b = old.linked.before k in omega arith)
              (λ (l : m ≤ k). ⊎_elim
              (λ (e : k ≡ m). let h = earlier_new k e in let w = old.linked.within x in omega arith)
              (λ ne. let z = get_or_past c'.earlier.items k 0 (let g = longer in omega (arith, ne)) in omega arith)
              (cases_eq k m))
              (cases_lt k m);
        };
        first = λ y k q. ⊎_elim
            (λ (e : y ≡ x). let h = last_here y e in let s : k ≡ m = omega arith in ap end s ∙ here ∙ sym e)
            (λ ne. old.first y k (sym (last_other y ne) ∙ q))
            (cases_eq y x);
        none = λ y k l q. ⊎_elim
            (λ (e : y ≡ x). let h = last_here y e in omega arith)
            (λ ne. let h = last_other y ne in ⊎_elim
            (λ (s : k ≡ m). absurd (ne (sym q ∙ ap end s ∙ here)))
            (λ other. let o = old.none y k (omega (arith, other)) q in omega arith)
            (cases_eq k m))
            (cases_eq y x);
        next = λ k j l q. ⊎_elim
            (λ (s : k ≡ m). old.first x j (sym (earlier_new k s) ∙ q) ∙ sym (ap end s ∙ here))
            (λ ne. let b : k < m = omega (arith, ne) in old.next k j b (sym (earlier_old k b) ∙ q))
            (cases_eq k m);
        between = λ k j l b q. ⊎_elim
            (λ (s : k ≡ m). let h = earlier_new k s in let o = old.none x j (omega arith) (q ∙ ap end s ∙ here) in omega arith)
            (λ ne. let d : k < m = omega (arith, ne) in let h = earlier_old k d in let o = old.between k j d b q in omega arith)
            (cases_eq k m);
      }
