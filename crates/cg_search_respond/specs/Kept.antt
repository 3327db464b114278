-- How claims are kept to count those above one: in lists, by resource and slot.
use Rattle.std.specs.Prelude.{◌≡◌, ℕ, ◌+◌, ◌*◌, ◌^◌, ◌%◌, ◌<◌, List, [], length, slice_index_or}
use Rattle.std.specs.List.{list_any}
use Rattle.cg_model.specs.Mapping.{Position}
use Rattle.cg_check.specs.declared.stop.Stop.{Stop}
use Rattle.cg_check.specs.Claims.{position_of}
use Rattle.cg_search_respond.specs.Faults.{same_claim, meets}

-- the list, of `count`, for resource r in slot s
unfoldable pub list_of : ℕ → ℕ → ℕ → ℕ → ℕ
list_of count ii r s = (((r * ii) % 2 ^ 64 + s) % 2 ^ 64) % count

-- the claims that are kept for a position
abbrev pub claims_by : ℕ → List (List Stop) → Position → List Stop
claims_by ii lists p = slice_index_or lists (list_of (length lists) ii p.resource (p.time % ii)) []

-- the list for each position has its claim, or one that it meets, exactly if the positions before have
pub record HasClaims (ii : ℕ) (before : List Position) (lists : List (List Stop)) : Type 0 where
  pub some : 0 < length lists
  pub same : (p : Position) → list_any (λ s. same_claim p (position_of s)) (claims_by ii lists p) ≡ list_any (same_claim p) before
  pub met : (p : Position) → list_any (λ s. meets ii p (position_of s)) (claims_by ii lists p) ≡ list_any (meets ii p) before
