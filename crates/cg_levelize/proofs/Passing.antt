-- The resources whose words a resource takes in the same cycle.
use Rattle.std.proofs.Common.{◌≡◌, ℕ, ◌<◌, List, [], length, refl, ◌∙◌, subst, arith, ⊎_elim}
use Rattle.std.specs.Prelude.{Contains, slice_index}
use Rattle.std.proofs.lemmas.Bool.{cases_lt}
use Rattle.std.proofs.lemmas.List.{get_or_default, get_or_past}
use Rattle.cg_model.specs.declared.array.Resource.{Resource}
use Rattle.cg_model.specs.declared.array.Kind.{Kind}
use Rattle.cg_model.specs.declared.array.Kind.TheVariants.{Wire, Register, Port, Out}
use Rattle.cg_model.specs.Array.{delay_by}
use Rattle.cg_levelize.specs.Topological.{Passes, resource_at}
use Rattle.cg_levelize.specs.Walk.{taken, inputs}

-- a list's number is at some place of it
pub place_in : (xs : List ℕ) (x : ℕ) → Contains xs x → (k : ℕ) × (k < length xs) × (slice_index xs k ≡ x)
place_in xs x c = (c.0, c.1, get_or_default xs c.0 0 x c.1 ∙ c.2)

-- the number at a place is in the list
pub item_in : (xs : List ℕ) (k x : ℕ) → k < length xs → slice_index xs k ≡ x → Contains xs x
item_in xs k x h e = (k, h, get_or_default xs k x 0 h ∙ e)

-- an empty list has no number
pub none_in : (x : ℕ) → Contains [] x → ⊥
none_in x c = let h : c.0 < 0 = c.1 in omega arith

taken_from : (kind : Kind) (drivers : List ℕ) (q : ℕ) → Contains (taken kind drivers) q → Contains drivers q × (delay_by kind ≡ 0)
taken_from Register drivers q c = absurd (none_in q c)
taken_from Wire drivers q c = (c, refl)
taken_from Port drivers q c = (c, refl)
taken_from Out drivers q c = (c, refl)

taken_into : (kind : Kind) (drivers : List ℕ) (q : ℕ) → Contains drivers q → delay_by kind ≡ 0 → Contains (taken kind drivers) q
taken_into Register drivers q c e = absurd (omega arith)
taken_into Wire drivers q c e = c
taken_into Port drivers q c e = c
taken_into Out drivers q c e = c

pub input_passes : (rs : List Resource) (r q : ℕ) → Contains (inputs rs r) q → Passes rs q r
input_passes rs r q c =
    let both = taken_from (resource_at rs r).kind (resource_at rs r).drivers q c in
    record { driver = both.0; at_once = both.1 }

pub passes_input : (rs : List Resource) (r q : ℕ) → Passes rs q r → Contains (inputs rs r) q
passes_input rs r q p = taken_into (resource_at rs r).kind (resource_at rs r).drivers q p.driver p.at_once

-- what is driven is a resource
pub driven_known : (rs : List Resource) (q r : ℕ) → Passes rs q r → r < length rs
driven_known rs q r p =
    ⊎_elim (λ h. h)
    (λ h. absurd (none_in q (subst (λ (x : Resource). Contains x.drivers q) (get_or_past rs r _ h) p.driver)))
    (cases_lt r (length rs))
