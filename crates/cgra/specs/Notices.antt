-- The notices on the standard error, separate from the report.
use Rattle.std.specs.Prelude.{◌==◌, ℕ, List, [], ◌∷◌, codes, if◌then◌else◌}
use Rattle.cg_effects.specs.declared.outcome.Status.{Status}
use Rattle.cg_effects.specs.declared.outcome.Status.TheVariants.{Memory, WriteFault}
use Rattle.cg_effects.specs.Outcome.{line_of}

-- the notice for a call that ends with that status, in which `write_faults` writes of files failed; where none did, a
-- write fault is one of the report
abbrev pub notice_of : Status → ℕ → List ℕ
notice_of Memory write_faults = line_of (codes "cgra: out of memory" ∷ [])
notice_of WriteFault write_faults =
    if write_faults == 0 then line_of (codes "cgra: the report couldn't be written" ∷ []) else line_of (codes "cgra: an output file couldn't be written" ∷ [])
notice_of _ write_faults = []
