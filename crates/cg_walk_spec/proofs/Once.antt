-- There is one walk, and it has one end.
use Rattle.std.proofs.Common.{◌≡◌, ℕ, ◌<◌, List, [], ◌∷◌, Option, Some, None, refl, sym, ap, ◌∙◌, subst, arith, ⊎_elim, inl, inr}
use Rattle.std.specs.Prelude.{if◌then◌else◌}
use Rattle.std.proofs.lemmas.Bool.{cases_order}
use Rattle.rand_pcg.specs.Lcg.{Lcg}
use Rattle.cg_model.specs.Kernel.{Kernel}
use Rattle.cg_model.specs.Array.{Arch}
use Rattle.cg_congestion.specs.Table.{Table}
use Rattle.cg_route.specs.Prices.{price}
use Rattle.cg_route.specs.Least.{Ends, IsNotAfter, IsAtMost, IsFound}
use Rattle.cg_place.specs.declared.moves.Move.{Move}
use Rattle.cg_walk_spec.specs.State.{State, ends_of, table_of_state, cost}
use Rattle.cg_walk_spec.specs.Walk.{edge, all_edges, with_route, IsRouted, touching, moved_by, unrouted_start, proposal, IsTried, is_taken, rested, IsMove, Walked, start, more, IsEnd}
use Rattle.cg_walk_spec.specs.Words.{after_words, word}

one_order : (xs ys : List ℕ) → IsNotAfter xs ys → IsNotAfter ys xs → xs ≡ ys
one_order [] [] h k = refl
one_order [] (y ∷ ys) h k = absurd k
one_order (x ∷ xs) [] h k = absurd h
one_order (x ∷ xs) (y ∷ ys) (inl a) (inl b) = absurd (omega arith)
one_order (x ∷ xs) (y ∷ ys) (inl a) (inr b) = absurd (omega (arith, a, b.0))
one_order (x ∷ xs) (y ∷ ys) (inr a) (inl b) = absurd (omega (arith, a.0, b))
one_order (x ∷ xs) (y ∷ ys) (inr a) (inr b) = ap (λ z. z ∷ xs) a.0 ∙ ap (λ zs. y ∷ zs) (one_order xs ys a.1 b.1)

at_most_once : (p q : ℕ) (xs ys : List ℕ) → IsAtMost p xs q ys → IsAtMost q ys p xs → xs ≡ ys
at_most_once p q xs ys (inl a) (inl b) = absurd (omega arith)
at_most_once p q xs ys (inl a) (inr b) = absurd (omega (arith, a, b.0))
at_most_once p q xs ys (inr a) (inl b) = absurd (omega (arith, a.0, b))
at_most_once p q xs ys (inr a) (inr b) = one_order xs ys a.1 b.1

-- one thing is found
pub found_once : (T : Table) (u : ℕ) (ends : Ends) (f g : Option (List ℕ)) → IsFound T u ends f → IsFound T u ends g → f ≡ g
found_once T u ends None None a b = refl
found_once T u ends None (Some q) a b = absurd (a b.1 q b.0.is_path)
found_once T u ends (Some p) None a b = absurd (b a.1 p a.0.is_path)
found_once T u ends (Some p) (Some q) a b =
    ap (λ x. Some x) (at_most_once (price T u ends.start p) (price T u ends.start q) p q (a.0.least q b.0.is_path) (b.0.least p a.0.is_path))

module _ (A : Arch) (K : Kernel) (ii : ℕ) where
  pub routed_once : (is : List ℕ) (S a b : State) → IsRouted A K ii is S a → IsRouted A K ii is S b → a ≡ b
  routed_once [] S a b h k = sym h ∙ k
  routed_once (i ∷ is) S a b h k =
      let same = found_once (table_of_state A K ii S) (edge K i).source (ends_of A ii S.places (edge K i)) h.0 k.0 h.1 k.1 in
      routed_once is (with_route S i h.0) a b h.2 (subst (λ f. IsRouted A K ii is (with_route S i f) b) (sym same) k.2)

  module _ (early : List ℕ) (moves : ℕ) where
    pub tried_once : (m : Move) (S a b : State) → IsTried A K ii m S a → IsTried A K ii m S b → a ≡ b
    tried_once m S a b h g = routed_once (touching K m.node) (moved_by K m S) a b h g

    pub move_once : (k : ℕ) (g : Lcg) (S a b : State) → IsMove A K ii early moves k g S a → IsMove A K ii early moves k g S b → a ≡ b
    move_once k g S a b h i =
        h.2 ∙
        ap (λ tried. rested A K ii k (if is_taken moves k (cost A K ii S) (cost A K ii tried) (word 3 g) then tried else S)) (tried_once (proposal A K ii early g) S h.0 i.0 h.1 i.1)
        ∙ sym i.2

    module _ (seed : ℕ) where
      pub walked_once : {k : ℕ} {g h : Lcg} {S T : State} → Walked A K ii early moves seed k g S → Walked A K ii early moves seed k h T → (g ≡ h) × (S ≡ T)
      walked_once (start {S = S} a) (start {S = T} b) = (refl, routed_once (all_edges K) (unrouted_start A K ii early) S T a b)
      walked_once (more {k = k} {g = g} {S = S} {after = T} w l c m) (more {g = h} {S = R} {after = U} v l' c' n) =
          let before = walked_once w v in
          let n' : IsMove A K ii early moves k g S U =
          subst (λ x. IsMove A K ii early moves k g x U) (sym before.1) (subst (λ x. IsMove A K ii early moves k x R U) (sym before.0) n) in
          (ap (λ x. after_words 4 x) before.0, move_once k g S T U m n')

      -- a walk that came to k moves had a cost after each number below k, and moves left
      abbrev Passed : ℕ → Type 0
      Passed j = (g : Lcg) × (S : State) × Walked A K ii early moves seed j g S × (0 < cost A K ii S) × (j < moves)

      passed : {k : ℕ} {g : Lcg} {S : State} → (j : ℕ) → j < k → Walked A K ii early moves seed k g S → Passed j
      passed j l (start a) = absurd (omega arith)
      passed j l (more {k = k} {g = g} {S = S} w less c m) =
          ⊎_elim (λ (same : j ≡ k). subst (λ x. Passed x) (sym same) (g, S, w, c, less))
          (λ other. ⊎_elim (λ (below : j < k). passed j below w) (λ (above : k < j). absurd (omega arith)) other)
          (cases_order j k)

      not_past : {k l : ℕ} {g h : Lcg} {S T : State} → k < l → IsEnd A K ii early moves seed k g S → Walked A K ii early moves seed l h T → ⊥
      not_past {k = k} {g = g} {S = S} less end w =
          let p = passed k less w in
          let same = walked_once end.0 p.2 in
          let some : 0 < cost A K ii S = subst (λ x. 0 < cost A K ii x) (sym same.1) p.3 in
          ⊎_elim (λ z. omega (arith, z, some)) (λ z. omega (arith, z, p.4)) end.1

      pub end_once : (k l : ℕ) (g h : Lcg) (S T : State) → IsEnd A K ii early moves seed k g S → IsEnd A K ii early moves seed l h T → (k ≡ l) × (g ≡ h) × (S ≡ T)
      end_once k l g h S T a b =
          ⊎_elim
          (λ (same : k ≡ l).
          let one = walked_once a.0 (subst (λ x. Walked A K ii early moves seed x h T) (sym same) b.0) in (same, one.0, one.1))
          (λ other. ⊎_elim (λ (less : k < l). absurd (not_past less a b.0)) (λ (more' : l < k). absurd (not_past more' b a.0)) other)
          (cases_order k l)
