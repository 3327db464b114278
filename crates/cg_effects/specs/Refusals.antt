-- The outcomes of refusals that are not specific to one command.
use Rattle.std.specs.Prelude.{[], ◌∷◌, codes}
use Rattle.cg_effects.specs.declared.outcome.Status.{Status}
use Rattle.cg_effects.specs.declared.outcome.Status.TheVariants.{Usage, Malformed}
use Rattle.cg_effects.specs.Outcome.{Name, Bytes, Outcome, line_of}

-- a status with a report, and nothing written
abbrev pub reports : Status → Bytes → Outcome
reports status report = record { status = status; report = report; writes = [] }

-- a status with a report, and one file written
abbrev pub writes_one : Status → Bytes → Name → Bytes → Outcome
writes_one status report name bytes = record { status = status; report = report; writes = record { name = name; bytes = bytes } ∷ [] }

-- the arguments fit no command
abbrev pub usage_outcome : Outcome
usage_outcome = reports Usage (line_of (codes "usage: cgra COMMAND ARGUMENTS" ∷ []))

-- a reader refuses the file of that name; the report has the code, name and place of the fault
abbrev pub malformed_of : Name → Bytes → Outcome
malformed_of file fault = reports Malformed (line_of (codes "malformed " ∷ file ∷ codes ": " ∷ fault ∷ []))
