-- The least chain between two nodes: where there is a chain there is one, and only one.
use Rattle.std.proofs.Common.{◌≡◌, ℕ, suc, ◌<◌, ◌≤◌, subst, arith, ⊎_elim}
use Rattle.std.proofs.lemmas.Bool.{cases_lt}
use Rattle.cg_model.specs.Kernel.{Kernel, IsKernel}
use Rattle.cg_model.specs.Order.{Chain}
use Rattle.cg_distance.specs.Least.{IsLeast}
use Rattle.cg_distance.proofs.Searches.{first_below}
use Rattle.cg_depend.specs.Depend.{Within}
use Rattle.cg_depend.proofs.Always.{within_decided}

pub least_unique : (K : Kernel) (u v d e : ℕ) → IsLeast K u v d → IsLeast K u v e → d ≡ e
least_unique K u v d e a b = let l = a.least e b.chain in let m = b.least d a.chain in omega arith

least_at : (K : Kernel) (u v x d : ℕ) → Within K u v x → ((y : ℕ) → y < suc d → Within K u v y → x ≤ y) → x < suc d → IsLeast K u v x
least_at K u v x d w first within =
    let few : w.0 ≤ x = w.2 in
    let far : x ≤ w.0 = first w.0 (omega arith) (w.0, w.1, omega arith) in
    let same : w.0 ≡ x = omega arith in
    record {
      chain = subst (Chain K u v) same w.1;
      least = λ e c. ⊎_elim (λ (l : e < suc d). first e l (e, c, omega arith)) (λ (l : suc d ≤ e). omega arith) (cases_lt e (suc d));
    }

pub some_least : (K : Kernel) → IsKernel K → (u v d : ℕ) → (u ≡ v → ⊥) → Chain K u v d → (x : ℕ) × IsLeast K u v x
some_least K good u v d other chain =
    ⊎_elim
    (λ f. let h = f.1 in (f.0, least_at K u v f.0 d h.holds h.least h.within))
    (λ none. absurd (none d (omega arith) (d, chain, omega arith)))
    (first_below (Within K u v) (suc d) (λ x l. within_decided K good u v x other))
