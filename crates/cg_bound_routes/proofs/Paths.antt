-- Paths along links: when they begin, and one link more.
use Rattle.std.proofs.Common.{◌≡◌, ℕ, ◌+◌, List, [], ◌∷◌, refl, ap, subst, arith, Contains}
use Rattle.cg_model.specs.Array.{Arch, resource, delay}
use Rattle.cg_model.specs.Mapping.{Goes}
use Rattle.cg_bound_routes.specs.Ways.{Leads}

-- a path that begins k cycles later ends k cycles later
pub goes_later : (A : Arch) (k : ℕ) (path : List ℕ) (q t r s : ℕ) → Goes A q t path r s → Goes A q (t + k) path r (s + k)
goes_later A k [] q t r s (a, b) = (a, ap (λ z. z + k) b)
goes_later A k (x ∷ path) q t r s (c, g) =
    let e : t + delay A x + k ≡ t + k + delay A x = omega arith in (c, subst (λ z. Goes A x z path r (s + k)) e (goes_later A k path x (t + delay A x) r s g))

-- and one that begins k cycles earlier ends k cycles earlier
pub goes_earlier : (A : Arch) (k : ℕ) (path : List ℕ) (q t r s : ℕ) → Goes A q (t + k) path r s → (n : ℕ) × (n + k ≡ s) × Goes A q t path r n
goes_earlier A k [] q t r s (a, b) = (t, b, (a, refl))
goes_earlier A k (x ∷ path) q t r s (c, g) =
    let e : t + k + delay A x ≡ t + delay A x + k = omega arith in
    let (n, f, h) = goes_earlier A k path x (t + delay A x) r s (subst (λ z. Goes A x z path r s) e g) in
    (n, f, (c, h))

-- a way from a driver goes on from what it drives
pub leads_on : (A : Arch) (q r e n : ℕ) → Contains (resource A r).drivers q → Leads A r e n → Leads A q e (n + delay A r)
leads_on A q r e n c (path, g) = (r ∷ path, (c, goes_later A (delay A r) path r 0 e n g))

pub leads_here : (A : Arch) (r : ℕ) → Leads A r r 0
leads_here A r = ([], (refl, refl))
