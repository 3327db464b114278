-- Whether a value or a claim is there, by the list of its node.
use Rattle.std.proofs.Common.{◌≡◌, ℕ, ◌+◌, ◌*◌, ◌/◌, ◌%◌, ◌<◌, Bool, true, false, eqb, List, [], ◌∷◌, length, get_or, Some, refl, sym, ap, ◌∙◌}
use Rattle.std.specs.Prelude.{◌&&◌, ◌||◌}
use Rattle.std.specs.List.{list_any}
use Rattle.std.proofs.lemmas.Bool.{and_parts, eqb-true, eq-eqb}
use Rattle.cg_model.specs.Mapping.{Position}
use Rattle.cg_congestion.specs.Claims.{same}
use Rattle.cg_model.specs.Mapping.{same_from}
use Rattle.cg_congestion.specs.Kept.{ClaimUse, expand_all}
use Rattle.cg_congestion.specs.Nodes.{AreLists}
use Rattle.cg_congestion.proofs.Nodes.{any_at}
use Rattle.cg_congestion.proofs.Tables.{place_row}

any_same : {X : Type 0} (p q : X → Bool) (xs : List X) → ((x : X) → p x ≡ q x) → list_any p xs ≡ list_any q xs
any_same p q [] h = refl
any_same p q (x ∷ xs) h = ap (λ b. b || list_any p xs) (h x) ∙ ap (λ b. q x || b) (any_same p q xs h)

and_true : (b : Bool) → (b && true) ≡ b
and_true true = refl
and_true false = refl

module _ (ii : ℕ) (some : 0 < ii) (nodes : List (List ClaimUse)) (lists : AreLists ii nodes) (r t : ℕ) (l : r * ii + t % ii < length nodes) where
  row : eqb (((r * ii + t % ii)) / ii) r ≡ true
  row = eq-eqb ((r * ii + t % ii) / ii) r (place_row ii r t some)

  row' : eqb r ((r * ii + t % ii) / ii) ≡ true
  row' = eq-eqb r ((r * ii + t % ii) / ii) (sym (place_row ii r t some))

  pub value_at : (s : ℕ) → list_any (λ (c : ClaimUse). eqb c.source s && eqb c.time t) (get_or nodes (r * ii + t % ii) []) ≡
      list_any (λ (p : Position). eqb p.source s && eqb p.resource r && eqb p.time t) (expand_all ii 0 nodes)
  value_at s =
      sym (any_at ii some (λ (p : Position). eqb p.source s && eqb p.resource r && eqb p.time t) (r * ii + t % ii) nodes
      (λ p h.
      let a = and_parts (eqb p.source s && eqb p.resource r) (eqb p.time t) h in
      let b = and_parts (eqb p.source s) (eqb p.resource r) a.0 in
      ap (λ z. z * ii + p.time % ii) (eqb-true p.resource r b.1) ∙ ap (λ z. r * ii + z % ii) (eqb-true p.time t a.1)) l lists
      ∙ any_same (λ (c : ClaimUse). eqb c.source s && eqb ((r * ii + t % ii) / ii) r && eqb c.time t) (λ (c : ClaimUse). eqb c.source s && eqb c.time t) (get_or nodes (r * ii + t % ii) [])
      (λ c. ap (λ b. (eqb c.source s && b) && eqb c.time t) row ∙ ap (λ b. b && eqb c.time t) (and_true (eqb c.source s))))

  pub claim_at : (s before : ℕ) → list_any (λ (c : ClaimUse). eqb s c.source && eqb t c.time && same_from (Some before) c.before) (get_or nodes (r * ii + t % ii) []) ≡
      list_any (same (record { source = s; resource = r; time = t; from = Some before })) (expand_all ii 0 nodes)
  claim_at s before =
      sym (any_at ii some (same (record { source = s; resource = r; time = t; from = Some before })) (r * ii + t % ii) nodes
      (λ p h.
      let a = and_parts (eqb s p.source && eqb r p.resource && eqb t p.time) (same_from (Some before) p.from) h in
      let b = and_parts (eqb s p.source && eqb r p.resource) (eqb t p.time) a.0 in
      let d = and_parts (eqb s p.source) (eqb r p.resource) b.0 in
      ap (λ z. z * ii + p.time % ii) (sym (eqb-true r p.resource d.1)) ∙ ap (λ z. r * ii + z % ii) (sym (eqb-true t p.time b.1))) l lists
      ∙ any_same (λ (c : ClaimUse). eqb s c.source && eqb r ((r * ii + t % ii) / ii) && eqb t c.time && same_from (Some before) c.before)
      (λ (c : ClaimUse). eqb s c.source && eqb t c.time && same_from (Some before) c.before) (get_or nodes (r * ii + t % ii) [])
      (λ c. ap (λ b. (eqb s c.source && b) && eqb t c.time && same_from (Some before) c.before) row' ∙ ap (λ b. b && eqb t c.time && same_from (Some before) c.before) (and_true (eqb s c.source))))
