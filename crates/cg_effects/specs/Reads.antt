-- The input files of a command, read in order.
use Rattle.std.specs.Prelude.{◌≡◌, ◌<◌, ◌≤◌, ◌++◌, ◌∷◌, [], ◌⊎◌, ℕ, List, map, length, All, codes, slice_index}
use Rattle.cg_files.specs.Held.{Held, Holds, IsMissing, IsLonger}
use Rattle.cg_effects.specs.declared.outcome.Status.TheVariants.{ReadFault, Malformed}
use Rattle.cg_effects.specs.declared.read.Unread.{Unread}
use Rattle.cg_effects.specs.declared.read.Unread.TheVariants.{Ended, Memory}
use Rattle.cg_effects.specs.Outcome.{Name, File, Outcome, outcome_of, line_of}

-- the greatest number of bytes of an input file
abbrev pub read_limit : ℕ
read_limit = 16777216

-- the file is held under its name, and isn't too long
abbrev pub IsRead : Held → File → Type 0
IsRead held file = Holds held file.name file.bytes × (length file.bytes ≤ read_limit)

-- each number of the file is below 256, as a byte is
abbrev pub HoldsBytes : File → Type 0
HoldsBytes file = (i : ℕ) → slice_index file.bytes i < 256

-- the files are those of these names, one for each, as they are held
pub record AreRead (held : Held) (names : List Name) (files : List File) : Type 0 where
  pub names_are : map (λ file. file.name) files ≡ names
  pub each : All (IsRead held) files

-- the outcome of a command where a file can't be read
abbrev pub read_fault_of : Name → Outcome
read_fault_of name = record {
  status = ReadFault;
  report = line_of (codes "read fault " ∷ name ∷ []);
  writes = [];
}

-- the outcome of a command where a file is too long
abbrev pub too_long_of : Name → Outcome
too_long_of name = record {
  status = Malformed;
  report = line_of (codes "malformed " ∷ name ∷ codes ": G1 TooLong limit 16777216" ∷ []);
  writes = [];
}

-- the reading ends at the first name that gives no file; `rose` says that a read failed
pub record StopsAt (held : Held) (rose : Type 0) (names : List Name) (outcome : Outcome) : Type 0 where
  pub files : List File
  pub name : Name
  pub rest : List Name
  pub names_are : names ≡ map (λ file. file.name) files ++ name ∷ rest
  pub each : All (IsRead held) files
  pub cause : ((outcome ≡ read_fault_of name) × (rose ⊎ IsMissing held name))
      ⊎ ((outcome ≡ too_long_of name) × IsLonger held name read_limit)

-- the reading ended before all files were read: with an outcome, or because memory ran out
abbrev pub IsUnread : Held → Type 0 → List Name → Unread → Type 0
IsUnread held rose names (Ended outcome) = StopsAt held rose names (outcome_of outcome)
IsUnread held rose names Memory = Unit {0}
