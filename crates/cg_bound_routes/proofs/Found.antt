-- What a search has found: the least number of registers, or that there is no way.
use Rattle.std.proofs.Common.{◌≡◌, ℕ, ◌+◌, ◌≤◌, ◌⊎◌, inl, inr, List, [], ◌∷◌, length, sym, subst, arith, ⊎_elim, Contains}
use Rattle.std.specs.Prelude.{Option, Some, None}
use Rattle.cg_model.specs.Array.{Arch, delay}
use Rattle.cg_model.specs.Mapping.{Goes}
use Rattle.cg_model.proofs.Lookups.{Contains-nil}
use Rattle.cg_bound_routes.specs.Ways.{IsLeast}
use Rattle.cg_bound_routes.specs.Search.{number, HasNumber, IsDue, IsUnderWay, Joins}
use Rattle.cg_bound_routes.proofs.Marks.{at_place}

module _ (A : Arch) (ends : List ℕ) (numbers : List (Option ℕ)) (level : ℕ) (front : List ℕ) (at : ℕ) (later : List ℕ) (s : IsUnderWay A ends numbers level front at later) where
  -- of a way that begins at q at time t and ends at time e: q has a number with which the way agrees, or the way has as many
  -- registers as the front waits for
  abbrev Bounds : Type 0 → ℕ → ℕ → ℕ → Type 0
  Bounds W q t e = ((m : ℕ) × (number numbers q ≡ Some m) × (t + m ≤ e)) ⊎ (W × (t + level ≤ e))

  module _ (W : Type 0) (front_waits : (q : ℕ) → Contains front q → HasNumber numbers q ⊎ W) (later_waits : (q : ℕ) → Contains later q → HasNumber numbers q ⊎ W) where
    waiting : (q n t e : ℕ) → level ≤ n → t + n ≤ e → HasNumber numbers q ⊎ W → Bounds W q t e
    waiting q n t e low h (inl (m, is)) = let k = s.low q m is in inl (m, is, omega arith)
    waiting q n t e low h (inr w) = inr (w, omega arith)

    due : (q n t e : ℕ) → t + n ≤ e → IsDue numbers level front later q n → Bounds W q t e
    due q n t e h (inl (m, is, le)) = inl (m, is, omega arith)
    due q n t e h (inr (inl (c, le))) = waiting q n t e le h (front_waits q c)
    due q n t e h (inr (inr (c, le))) = waiting q n t e (omega arith) h (later_waits q c)

    pub bounds : (path : List ℕ) (q t r e : ℕ) → Contains ends r → Goes A q t path r e → Bounds W q t e
    bounds [] q t r e c (a, b) = due q 0 t e (omega arith) (subst (λ z. IsDue numbers level front later z 0) (sym a) (s.begun r c))
    bounds (x ∷ path) q t r e c (d, g) =
        ⊎_elim {C = Bounds W q t e} (λ (m, is, le). due q (m + delay A x) t e (omega arith) (s.onward q x m is d)) (λ (w, le). inr (w, omega arith))
        (bounds path x (t + delay A x) r e c g)

  module _ (from : List ℕ) (unmet : (q : ℕ) → Contains from q → number numbers q ≡ None) where
    -- a resource at the front is one of those from which a way is sought
    pub least_found : (q : ℕ) → Contains front q → Contains from q → IsLeast (Joins A from ends) (Some level)
    least_found q c f = (
      (q, f, (s.fronts q c).1),
      λ m (p, h, (r, i, (path, g))).
          ⊎_elim {C = level ≤ m} (λ (k, is, le). let no = unmet p h in absurd (cc)) (λ (w, le). omega arith)
          (bounds ℕ (λ q c. inr level) (λ q c. inr level) path p 0 r m i g),
    )

    -- nothing waits any more
    pub none_found : at ≡ length front → later ≡ [] → IsLeast (Joins A from ends) None
    none_found over empty = λ m (p, h, (r, i, (path, g))).
        ⊎_elim {C = ⊥} (λ (k, is, le). let no = unmet p h in absurd (cc)) (λ (w, le). w)
        (bounds ⊥ (λ q c. let (k, l, e) = at_place front q c in inl (subst (HasNumber numbers) e (s.passed k (omega arith))))
        (λ q c. absurd (Contains-nil q (subst (λ z. Contains z q) empty c))) path p 0 r m i g)
