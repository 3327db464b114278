-- `flat ARCH OUT`.
use Rattle.std.specs.Prelude.{◌≡◌, [], ◌∷◌, length, codes, decimal}
use Rattle.hex.specs.Hex.{encode_lower}
use Rattle.cg_model.specs.Array.{Arch, links}
use Rattle.cg_flat.specs.Text.{text_of}
use Rattle.cg_arch.specs.Kept.{digest_of}
use Rattle.cg_tiles.specs.Answer.{AreValidBytes}
use Rattle.cg_effects.specs.declared.outcome.Status.TheVariants.{Done}
use Rattle.cg_files.specs.Held.{Holds, Appends}
use Rattle.cg_effects.specs.Outcome.{Name, Bytes, File, Outcome, line_of, line_then}
use Rattle.cg_effects.specs.Ends.{Moment}
use Rattle.cg_inputs.specs.Answered.{ReadThen}
use Rattle.cg_inputs.specs.Readings.{ReadsArch}

-- the numbers of resources, units and links, and the digest of the text
abbrev pub flat_report : Arch → Bytes
flat_report A =
    line_then (codes "resources " ∷ decimal (length A.resources) ∷ [])
    (line_then (codes "units " ∷ decimal (length A.units) ∷ [])
    (line_then (codes "links " ∷ decimal (links A.resources) ∷ [])
    (line_of (codes "digest " ∷ encode_lower (digest_of A) ∷ []))))

-- the text of the architecture is written
abbrev pub flattened : Arch → Name → Outcome
flattened A out = record { status = Done; report = flat_report A; writes = record { name = out; bytes = text_of A } ∷ [] }

abbrev pub IsFlattening : Name → Arch → Outcome → Type 0
IsFlattening out A o = o ≡ flattened A out

abbrev pub IsFlat : File → Name → Outcome → Type 0
IsFlat file out o = ReadThen (ReadsArch file) (IsFlattening out) o

-- Done: an architecture was read, its text is held under the other name, and its counts and its digest were reported
pub record IsFlattened (file out : Name) (before after : Moment) : Type 0 where
  pub bytes : Bytes
  pub held : Holds before.held file bytes
  pub arch : Arch
  pub given : AreValidBytes bytes arch
  pub written : Holds after.held out (text_of arch)
  pub put : Appends before.taken (flat_report arch) after.taken
