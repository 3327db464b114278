-- The outcome of a command: a status, a report, and files to write in order.
use Rattle.std.specs.Prelude.{ℕ, List, [], ◌∷◌, ◌++◌, map, string_bytes}
use Rattle.cg_effects.specs.declared.outcome.Status.{Status}
use Rattle.cg_effects.specs.declared.outcome.File.{File as FileValue}
use Rattle.cg_effects.specs.declared.outcome.Outcome.{Outcome as OutcomeValue}

-- the bytes of a name
abbrev pub Name : Type 0
Name = List ℕ

-- the bytes of a file or a report
abbrev pub Bytes : Type 0
Bytes = List ℕ

-- a file that was read, or is to be written
pub record File : Type 0 where
  pub name : Name
  pub bytes : Bytes

-- the status, the report and the files to write, in order
pub record Outcome : Type 0 where
  pub status : Status
  pub report : Bytes
  pub writes : List File

-- the line of these pieces: their concatenation, followed by a line feed
abbrev pub line_of : List Bytes → Bytes
line_of [] = 10 ∷ []
line_of (piece ∷ pieces) = piece ++ line_of pieces

-- a line of these pieces, followed by other bytes
abbrev pub line_then : List Bytes → Bytes → Bytes
line_then [] rest = 10 ∷ rest
line_then (piece ∷ pieces) rest = piece ++ line_then pieces rest

-- the file that a file of the program represents
abbrev pub file_of : FileValue → File
file_of file = record { name = string_bytes file.name; bytes = file.bytes.items }

-- the outcome that an outcome of the program represents
abbrev pub outcome_of : OutcomeValue → Outcome
outcome_of outcome = record {
  status = outcome.status;
  report = outcome.report.items;
  writes = map file_of outcome.writes.items;
}

-- the names of these files, in order
abbrev pub names_of : List File → List Name
names_of files = map (λ file. file.name) files
