-- The end of a search by halves, and the interval of a legal mapping.
use Rattle.std.proofs.Common.{◌≡◌, ℕ, ◌+◌, ◌-◌, ◌≤◌, ap, ◌∙◌, subst, arith}
use Rattle.cg_model.specs.Kernel.{Kernel, IsKernel}
use Rattle.cg_model.specs.Array.{Arch}
use Rattle.cg_model.specs.Mapping.{Mapping, IsLegal}
use Rattle.cg_check.specs.Legal.{Mapped}
use Rattle.cg_recur.specs.Recurrences.{IsRecurrence}
use Rattle.cg_class.specs.Class.{IsOverfull}
use Rattle.cg_bound.specs.Bound.{IsForbidden}
use Rattle.cg_show_table.specs.declared.margin.LongChain.{LongChain}
use Rattle.cg_show_table.specs.declared.margin.FullClass.{FullClass}
use Rattle.cg_show_table.specs.Margin.{IsLongest, IsFullest}
use Rattle.cg_show_table.specs.Search.{IsBetweenChains, IsBetweenClasses}

module _ (A : Arch) (K : Kernel) where
  pub longest : (low : ℕ) (c : LongChain) → IsBetweenChains A K low c.least c.edges.items → c.least ≤ low + 1 → IsLongest A K c
  longest low c between last =
      let order = between.order in
      let e : low ≡ c.least - 1 = omega arith in
      record { some = omega arith; free = between.free; forbids = subst (λ z. IsRecurrence A K z c.edges.items) e between.forbids.0; shown = between.forbids.1 }

  pub fullest : (low : ℕ) (c : FullClass) → IsBetweenClasses A K low c.least c.ops → c.least ≤ low + 1 → IsFullest A K c
  fullest low c between last =
      let order = between.order in
      let e : low ≡ c.least - 1 = omega arith in
      record { some = omega arith; free = between.free; overfull = subst (λ z. IsOverfull A K z c.ops) e between.overfull.0; own = between.overfull.1 }

-- nothing forbids the interval of a legal mapping, by the law that says so
pub not_forbidden : ((A : Arch) (K : Kernel) (M : Mapping) → IsKernel K → IsLegal A K M → IsForbidden A K M.ii → ⊥) → (m : Mapped) (A : Arch) (K : Kernel) (M : Mapping) (ii : ℕ)
    → A ≡ m.arch → K ≡ m.kernel → M ≡ m.mapping → ii ≡ M.ii → IsKernel K → IsLegal m.arch m.kernel m.mapping → IsForbidden A K ii → ⊥
not_forbidden law m A K M ii a k p i valid legal forbidden =
    let number : ii ≡ m.mapping.ii = i ∙ ap (λ (z : Mapping). z.ii) p in
    law m.arch m.kernel m.mapping (subst IsKernel k valid) legal
    (subst (λ z. IsForbidden m.arch m.kernel z) number (subst (λ z. IsForbidden m.arch z ii) k (subst (λ z. IsForbidden z K ii) a forbidden)))
