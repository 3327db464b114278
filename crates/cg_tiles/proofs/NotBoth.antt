-- Bytes don't both give an architecture and have a fault.
use Rattle.std.proofs.Common.{◌≡◌, List, ℕ, Some, None, Ok, sym, ◌∙◌, subst}
use Rattle.cg_model.specs.Array.{Arch}
use Rattle.cg_parts.specs.declared.parts.Parts.{Parts}
use Rattle.cg_parts.specs.declared.fault.ArchFault.{ArchFault}
use Rattle.cg_validate.specs.Answer.{IsFault, AreValid, early, a_loop, late}
use Rattle.cg_grid.specs.declared.fault.TilesFault.{TilesFault}
use Rattle.cg_tiles.specs.Answer.{AreValidBytes, IsRefused, parts_spelled}

-- parts that are valid have no fault
parts_not_both : (parts : Parts) (A : Arch) (f : ArchFault) → AreValid parts A → IsFault parts f → ⊥
parts_not_both parts A f valid (early e) = let bad : None ≡ Some f = sym valid.early ∙ e in cc
parts_not_both parts A f valid (a_loop {loop = loop} e is) = valid.no_loop loop is
parts_not_both parts A f valid (late e none l) = let bad : None ≡ Some f = sym valid.late ∙ l in cc

pub not_both : (bytes : List ℕ) (A : Arch) (f : TilesFault) → AreValidBytes bytes A → IsRefused (parts_spelled bytes) f → ⊥
not_both bytes A f valid refused =
    let r : IsRefused (Ok valid.parts) f = subst (λ s. IsRefused s f) valid.spelled refused in
    parts_not_both valid.parts A r.0 valid.valid r.3
