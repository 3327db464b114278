-- Facts on chains.
use Rattle.std.proofs.Common.{◌≡◌, ℕ, ◌+◌, ◌*◌, ◌≤◌, List, [], ◌∷◌, ◌++◌, Option, sym, ap, subst, arith}
use Rattle.cg_recur.specs.declared.edge.Edge.{Edge}
use Rattle.cg_recur.specs.Chain.{Goes, latencies, distances, latency_of, distance_of, IsCycle, IsEarly, IsTight}

module _ {X : Type 0} (edge : X → Option Edge) where
  pub latencies-append : (xs ys : List X) → latencies edge (xs ++ ys) ≡ latencies edge xs + latencies edge ys
  latencies-append [] ys = omega arith
  latencies-append (x ∷ xs) ys = omega (arith, latencies-append xs ys)

  pub distances-append : (xs ys : List X) → distances edge (xs ++ ys) ≡ distances edge xs + distances edge ys
  distances-append [] ys = omega arith
  distances-append (x ∷ xs) ys = omega (arith, distances-append xs ys)

  pub Goes-append : (u v w : ℕ) (xs ys : List X) → Goes edge u xs v → Goes edge v ys w → Goes edge u (xs ++ ys) w
  Goes-append u v w [] ys a b = subst (λ z. Goes edge z ys w) (sym a) b
  Goes-append u v w (x ∷ xs) ys (e, is, s, r) b = (e, is, s, Goes-append e.target v w xs ys r b)

  -- times that no edge asks more than, asks no chain more than
  pub along : (ii : ℕ) (time : ℕ → ℕ) → IsTight edge ii time → (u v : ℕ) (xs : List X) → Goes edge u xs v → time u + latencies edge xs ≤ time v + ii * distances edge xs
  along ii time tight u v [] g = let e = ap time g in omega arith
  along ii time tight u v (x ∷ xs) (e, is, s, r) =
      let a : time e.source + e.latency ≤ time e.target + ii * e.distance = tight x e is in
      let b = along ii time tight e.target v xs r in
      let c = ap time s in
      let d = ap latency_of is in
      let f = ap distance_of is in
      let g = ap (λ z. ii * z) f in
      omega arith

  pub none_from_tight : (ii : ℕ) (time : ℕ → ℕ) → IsTight edge ii time → (xs : List X) → IsCycle edge ii xs → ⊥
  none_from_tight ii time tight xs c = let h = along ii time tight c.closed.0 c.closed.0 xs c.closed.1 in let l = c.long in omega arith

  -- a chain that is too long for an interval is too long for each lower one
  pub fades : (ii jj : ℕ) (xs : List X) → jj ≤ ii → IsCycle edge ii xs → IsCycle edge jj xs
  fades ii jj xs le c =
      record {
        some = c.some;
        closed = c.closed;
        long = let l = c.long in let m : jj * distances edge xs ≤ ii * distances edge xs = grind arith in omega arith;
      }

  pub one_early : (ii v s t : ℕ) → IsEarly edge ii v s → IsEarly edge ii v t → s ≤ t
  one_early ii v s t a b = let (u, xs, g, e) = a.reached in let h = b.greatest u xs g in omega arith
