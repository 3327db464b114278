-- The same edges under other names.
use Rattle.std.proofs.Common.{◌≡◌, ℕ, zero, suc, ◌*◌, List, [], ◌∷◌, length, Option, Some, refl, sym, ap, ◌∙◌, subst, arith}
use Rattle.std.specs.Prelude.{map, slice_get}
use Rattle.cg_recur.specs.declared.edge.Edge.{Edge}
use Rattle.cg_recur.specs.Chain.{Goes, latencies, distances, latency_of, distance_of, source_of, IsCycle, IsShown, IsEarly}

module _ {X Y : Type 0} (edge : X → Option Edge) (edge' : Y → Option Edge) (f : X → Y) (same : (x : X) (e : Edge) → edge x ≡ Some e → edge' (f x) ≡ Some e) where
  pub Goes-map : (u v : ℕ) (xs : List X) → Goes edge u xs v → Goes edge' u (map f xs) v
  Goes-map u v [] g = g
  Goes-map u v (x ∷ xs) (e, is, s, r) = (e, same x e is, s, Goes-map e.target v xs r)

  pub sums-map : (u v : ℕ) (xs : List X) → Goes edge u xs v → (latencies edge' (map f xs) ≡ latencies edge xs) × (distances edge' (map f xs) ≡ distances edge xs)
  sums-map u v [] g = (refl, refl)
  sums-map u v (x ∷ xs) (e, is, s, r) =
      let (a, b) = sums-map e.target v xs r in
      let l = ap latency_of (same x e is) in
      let m = ap latency_of is in
      let d = ap distance_of (same x e is) in
      let k = ap distance_of is in
      (omega arith, omega arith)

  length-same : (xs : List X) → length (map f xs) ≡ length xs
  length-same [] = refl
  length-same (x ∷ xs) = ap suc (length-same xs)

  pub IsCycle-map : (ii : ℕ) (xs : List X) → IsCycle edge ii xs → IsCycle edge' ii (map f xs)
  IsCycle-map ii xs c =
      let (l, d) = sums-map c.closed.0 c.closed.0 xs c.closed.1 in
      let k = ap (λ z. ii * z) d in
      record {
        some = let a = length-same xs in let b = c.some in omega arith;
        closed = (c.closed.0, Goes-map c.closed.0 c.closed.0 xs c.closed.1);
        long = let b = c.long in omega arith;
      }

  -- each name on a chain has an edge
  pub named : (u v : ℕ) (xs : List X) (i : ℕ) (x : X) → Goes edge u xs v → slice_get xs i ≡ Some x → (e : Edge) × (edge x ≡ Some e)
  named u v [] i x g h = absurd (cc)
  named u v (y ∷ xs) zero x (e, is, s, r) h = let q : y ≡ x = cc in (e, subst (λ z. edge z ≡ Some e) q is)
  named u v (y ∷ xs) (suc i) x (e, is, s, r) h = named e.target v xs i x r h

  place-map : (xs : List X) (i : ℕ) (y : Y) → slice_get (map f xs) i ≡ Some y → (x : X) × (slice_get xs i ≡ Some x) × (f x ≡ y)
  place-map [] i y h = absurd (cc)
  place-map (x ∷ xs) zero y h = (x, refl, cc)
  place-map (x ∷ xs) (suc i) y h = place-map xs i y h

  source-same : (u v : ℕ) (xs : List X) (i : ℕ) (x : X) → Goes edge u xs v → slice_get xs i ≡ Some x → source_of (edge' (f x)) ≡ source_of (edge x)
  source-same u v xs i x g h = let (e, is) = named u v xs i x g h in ap source_of (same x e is) ∙ sym (ap source_of is)

  pub IsShown-map : (u v : ℕ) (xs : List X) → Goes edge u xs v → IsShown edge xs → IsShown edge' (map f xs)
  IsShown-map u v xs g s =
      record {
        apart = λ i j y z l h k e.
            let (x, hx, fx) = place-map xs i y h in
            let (w, hw, fw) = place-map xs j z k in
            s.apart i j x w l hx hw (sym (source-same u v xs i x g hx) ∙ ap (λ t. source_of (edge' t)) fx ∙ e ∙ sym (ap (λ t. source_of (edge' t)) fw) ∙ source-same u v xs j w g hw);
        least = λ j y z h k.
            let (x, hx, fx) = place-map xs 0 y h in
            let (w, hw, fw) = place-map xs j z k in
            let a = s.least j x w hx hw in
            let b = source-same u v xs 0 x g hx in
            let c = ap (λ t. source_of (edge' t)) fx in
            let d = source-same u v xs j w g hw in
            let m = ap (λ t. source_of (edge' t)) fw in
            omega arith;
      }

-- earliest times are the same under names for all edges both ways
pub IsEarly-names : {X Y : Type 0} (edge : X → Option Edge) (edge' : Y → Option Edge) (f : X → Y) (g : Y → X) → ((x : X) (e : Edge) → edge x ≡ Some e → edge' (f x) ≡ Some e) → ((y : Y) (e : Edge) → edge' y ≡ Some e → edge (g y) ≡ Some e) →
    (ii v t : ℕ) → IsEarly edge ii v t → IsEarly edge' ii v t
IsEarly-names edge edge' f g to back ii v t h =
    let (u, xs, r, e) = h.reached in
    let (l, d) = sums-map edge edge' f to u v xs r in
    let k = ap (λ z. ii * z) d in
    record {
      reached = (u, map f xs, Goes-map edge edge' f to u v xs r, omega arith);
      greatest = λ w ys s. let (l', d') = sums-map edge' edge g back w v ys s in let a = h.greatest w (map g ys) (Goes-map edge' edge g back w v ys s) in let k' = ap (λ z. ii * z) d' in omega arith;
    }
