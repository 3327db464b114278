-- The hub suffices at an interval, or it doesn't.
use Rattle.std.proofs.Common.{◌≡◌, ℕ, ◌⊎◌, length, Option, Some, None, refl, sym, ◌∙◌, arith, inl, inr, ⊎_elim}
use Rattle.std.proofs.lemmas.Bool.{cases_lt}
use Rattle.cg_model.specs.Kernel.{Kernel}
use Rattle.cg_model.specs.Array.{Arch}
use Rattle.cg_hub.specs.Hub.{HubEnough, need, serial, hub_map}

-- the interval of its mapping
pub hub_interval : (A : Arch) (K : Kernel) (ii : ℕ) → (hub_map A K ii).ii ≡ ii
unfolding hub_map
hub_interval A K ii = refl

module _ (A : Arch) (K : Kernel) (ii : ℕ) where
  by_serial : (o : Option ℕ) → serial A K ≡ o → HubEnough A K ii ⊎ (HubEnough A K ii → ⊥)
  by_serial None e = inr (λ h. let t = h.total_is in let z : None ≡ Some h.total = sym e ∙ t in cc)
  by_serial (Some n) e =
      let other : (h : HubEnough A K ii) → h.total ≡ n = λ h. (let t = h.total_is in let z : Some h.total ≡ Some n = sym t ∙ e in cc) in
      ⊎_elim (λ some.
      ⊎_elim (λ l. inr (λ h. let a = h.enough in absurd (omega (arith, l, a))))
      (λ enough.
      ⊎_elim (λ l. inr (λ h. let a = h.short in let b = other h in absurd (omega (arith, l, a, b))))
      (λ short.
      ⊎_elim (λ positive.
      ⊎_elim (λ l. inr (λ h. let a = h.contexts in absurd (omega (arith, l, a))))
      (λ contexts. inl (record { some = some; enough = omega (arith, enough); total = n; total_is = e; short = omega (arith, short); interval = positive; contexts = omega (arith, contexts) }))
      (cases_lt A.contexts ii))
      (λ l. inr (λ h. let a = h.interval in absurd (omega (arith, l, a))))
      (cases_lt 0 ii))
      (cases_lt ii n))
      (cases_lt (length A.hub) (need K)))
      (λ l. inr (λ h. let a = h.some in absurd (omega (arith, l, a))))
      (cases_lt 0 (length A.hub))

  pub enough_or_not : HubEnough A K ii ⊎ (HubEnough A K ii → ⊥)
  enough_or_not = by_serial (serial A K) refl
