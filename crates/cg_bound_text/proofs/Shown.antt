-- Lines one after another, and the lists that they show.
use Rattle.std.proofs.Common.{◌≡◌, ℕ, zero, suc, ◌-◌, ◌<◌, List, ◌++◌, Contains, Option, Some, None, sym, ap, ◌∙◌, subst, arith}
use Rattle.std.proofs.lemmas.List.{append_assoc}
use Rattle.cg_model.specs.Kernel.{Kernel}
use Rattle.cg_model.specs.Array.{Arch}
use Rattle.cg_bound_all.specs.declared.reason.Kind.{Kind}
use Rattle.cg_bound_all.specs.declared.reason.Reason.{Reason}
use Rattle.cg_bound_all.specs.declared.reason.Reason.TheVariants.{Recurrence, Class, NoWay, Ways, Registers}
use Rattle.cg_bound_all.specs.declared.numbers.HopTables.{HopTables}
use Rattle.cg_bound_all.specs.declared.bounds.Bound.{Bound}
use Rattle.cg_bound_all.specs.Why.{Shows, HasShortLists, IsShown, IsBound, IsSaid, AreBounds}
use Rattle.cg_bound_text.specs.Text.{lines_above, lines_to, HasShortBelow}

module _ (A : Arch) (K : Kernel) (f : HopTables) where
  pub next_lines : (bounds : List Bound) (n : ℕ) (t t' whole : List ℕ) → 0 < n → t' ≡ t ++ lines_above A K f bounds (n - 1) → t ++ lines_to A K f bounds n ≡ whole → t' ++ lines_to A K f bounds (n - 1) ≡ whole
  next_lines bounds zero t t' whole l e h = absurd (omega arith)
  next_lines bounds (suc n) t t' whole l e h =
      let q : suc n - 1 ≡ n = omega arith in
      subst (λ z. t' ++ lines_to A K f bounds z ≡ whole) (sym q)
      (ap (λ z. z ++ lines_to A K f bounds n) (e ∙ ap (λ z. t ++ lines_above A K f bounds z) q) ∙ append_assoc t (lines_above A K f bounds n) (lines_to A K f bounds n) ∙ h)

  pub short_lists : (hops : ℕ → ℕ → ℕ) (ii : ℕ) (r : Reason) → Shows A K hops ii r → HasShortLists r
  short_lists hops ii (Recurrence ids) h = tt
  short_lists hops ii (Class set) h = tt
  short_lists hops ii (NoWay m) h = tt
  short_lists hops ii (Ways ids) h = tt
  short_lists hops ii (Registers P) (h, s) = s

  short_below : (kind : Kind) (ii : ℕ) (o : Option Reason) → IsShown A K f kind ii o → HasShortBelow o
  short_below kind ii None h = tt
  short_below kind ii (Some r) (h, e) = short_lists _ ii r h

  pub short_bound : (bound : Bound) → IsBound A K f bound → HasShortBelow bound.below
  short_bound bound is = short_below bound.kind _ bound.below is.below

  pub short_said : (bounds : List Bound) (ii : ℕ) (o : Option Reason) → IsSaid A K f bounds ii o → HasShortBelow o
  short_said bounds ii None h = tt
  short_said bounds ii (Some r) (h, first) = short_lists _ ii r h

  pub short_bounds : (k : ℕ) (bounds bounds' : List Bound) → bounds' ≡ bounds → AreBounds A K f k bounds → (bound : Bound) → Contains bounds' bound → HasShortBelow bound.below
  short_bounds k bounds bounds' e are bound has = short_bound bound (are.right bound (subst (λ z. Contains z bound) e has))
