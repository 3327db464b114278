-- The architecture that bytes give.
use Rattle.std.proofs.Common.{◌≡◌, List, ℕ, length, Ok, sym, ◌∙◌, ap, subst, ⊎_elim}
use Rattle.sha2.proofs.Facts256.{length-sha256}
use Rattle.cg_model.specs.Array.{Arch, IsArch}
use Rattle.cg_levelize.proofs.Solved.{order_or_loop}
use Rattle.cg_parts.specs.declared.parts.Parts.{Parts}
use Rattle.cg_flat.specs.Text.{text_of}
use Rattle.cg_validate.specs.Flat.{arch_of}
use Rattle.cg_arch.specs.Kept.{digest_of}
use Rattle.cg_validate.specs.Answer.{AreValid}
use Rattle.cg_validate.proofs.Answered.{drivers_known, valid_by}
use Rattle.cg_tiles.specs.Answer.{AreValidBytes}

-- bytes give one architecture
pub same_array : (bytes : List ℕ) (A B : Arch) → AreValidBytes bytes A → AreValidBytes bytes B → A ≡ B
same_array bytes A B a b =
    let ok : Ok a.parts ≡ Ok b.parts = sym a.spelled ∙ b.spelled in
    let parts : a.parts ≡ b.parts = cc in
    a.valid.is ∙ ap arch_of parts ∙ sym b.valid.is

-- parts without a fault make a valid one
pub valid_parts : (parts : Parts) → AreValid parts (arch_of parts) → IsArch (arch_of parts)
valid_parts parts a =
    ⊎_elim (λ o. valid_by parts o.0 a.early a.late o.1) (λ l. absurd (a.no_loop l.0 l.1))
    (order_or_loop (arch_of parts).resources (drivers_known parts a.early))

-- and a valid one
pub valid_array : (bytes : List ℕ) (A : Arch) → AreValidBytes bytes A → IsArch A
valid_array bytes A a = subst IsArch (sym a.valid.is) (valid_parts a.parts (subst (AreValid a.parts) a.valid.is a.valid))

-- its digest has 32 bytes
pub sized : (A : Arch) → length (digest_of A) ≡ 32
unfolding digest_of
sized A = length-sha256 (text_of A)
