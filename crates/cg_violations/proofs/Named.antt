-- Tests under names, as loops speak of them.
use Rattle.std.proofs.Common.{◌≡◌, ℕ, cond, List, Option, Some, None, ap, ◌∙◌}
use Rattle.cg_model.specs.Array.{Arch}
use Rattle.cg_model.specs.Mapping.{Mapping}
use Rattle.cg_violations.specs.Faults.{meets, meeting_text}

-- node w, where it meets node v
abbrev pub meeting : Mapping → ℕ → ℕ → Option ℕ
meeting M v w = cond (meets M v w) (Some w) None

-- the text of two that meet, whose names are known
pub met : (A : Arch) (r s : ℕ) (text a b c d : List ℕ) → text ≡ meeting_text A r s a b → a ≡ c → b ≡ d → text ≡ meeting_text A r s c d
met A r s text a b c d is e f = is ∙ ap (λ z. meeting_text A r s z b) e ∙ ap (meeting_text A r s c) f
