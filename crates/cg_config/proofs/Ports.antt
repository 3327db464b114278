-- Whether ports are free, of all fields of a canonical configuration.
use Rattle.std.proofs.Common.{◌≡◌, ℕ, ◌<◌, ◌↔◌, Bool, true, false, not, [], length, get_or, refl, sym, ◌∙◌, arith}
use Rattle.std.specs.Bool.{IsTrue}
use Rattle.std.proofs.lemmas.Bool.{true≢false}
use Rattle.cg_model.specs.declared.config.UnitFields.{UnitFields}
use Rattle.cg_model.specs.Array.{Arch}
use Rattle.cg_model.specs.Config.{Config, fields}
use Rattle.cg_model.specs.Canonical.{IsCanonical, clash}
use Rattle.cg_config.specs.Changes.{LeavesPortsFree}

pub ports_free : (A : Arch) (C : Config) (f : UnitFields) (clashes : Bool) → IsCanonical A C →
    (clashes ≡ true → (slot : ℕ) × (slot < length C.units) × (x : ℕ) × (x < length (get_or C.units slot [])) × (clash (fields C x slot) f ≡ true)) →
    (clashes ≡ false → (slot x : ℕ) → slot < length C.units → x < length (get_or C.units slot []) → clash (fields C x slot) f ≡ false) →
    IsTrue (not clashes) ↔ LeavesPortsFree A C f
ports_free A C f true right some none =
    let h = some refl in
    let slots = right.slots.1 in
    let rows = (right.rows h.0 (omega arith)).1 in
    (λ e. absurd cc, λ free. absurd (true≢false (sym h.4 ∙ free h.2 h.0 (omega arith) (omega arith))))
ports_free A C f false right some none =
    let slots = right.slots.1 in
    (λ e x slot lt in_time. let rows = (right.rows slot in_time).1 in none refl slot x (omega arith) (omega arith), λ free. refl)
