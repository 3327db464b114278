-- Where the store tells, the reading of names ends.
use Rattle.std.proofs.Common.{◌≡◌, ◌≤◌, ◌<◌, ◌⊎◌, inl, inr, List, [], ◌∷◌, length, Option, Some, None, refl, ap, ⊎_elim}
use Rattle.std.proofs.lemmas.Bool.{cases_lt}
use Rattle.std.proofs.lemmas.List.Elements.{All-nil, All-cons}
use Rattle.cg_files.specs.Held.{IsLonger}
use Rattle.cg_effects.specs.Outcome.{Name, Bytes, File, Outcome}
use Rattle.cg_effects.specs.Reads.{IsRead, AreRead, StopsAt, read_limit, read_fault_of, too_long_of}

-- all files are read, or the reading ends at one of them; no read fails
abbrev pub EndsReading : (Name → Option Bytes) → List Name → Type 0
EndsReading held names = ((files : List File) × AreRead (Some held) names files) ⊎ ((o : Outcome) × StopsAt (Some held) ⊥ names o)

-- bytes under a name
abbrev file_named : Name → Bytes → File
file_named name bytes = record { name = name; bytes = bytes }

none_read : (held : Name → Option Bytes) → AreRead (Some held) [] []
none_read held = record { names_are = refl; each = All-nil (IsRead (Some held)) }

-- what comes of the others, after a file that was read
read_first : (held : Name → Option Bytes) (name : Name) (names : List Name) (bytes : Bytes) → held name ≡ Some bytes → length bytes ≤ read_limit → EndsReading held names → EndsReading held (name ∷ names)
read_first held name names bytes is short (inl (files, read)) =
    inl (
      file_named name bytes ∷ files,
      record {
        names_are = ap (λ (ns : List Name). name ∷ ns) read.names_are;
        each = All-cons (IsRead (Some held)) (file_named name bytes) files (is, short) read.each;
      },
    )
read_first held name names bytes is short (inr (o, stop)) =
    inr (
      o,
      record {
        files = file_named name bytes ∷ stop.files;
        name = stop.name;
        rest = stop.rest;
        names_are = ap (λ (ns : List Name). name ∷ ns) stop.names_are;
        each = All-cons (IsRead (Some held)) (file_named name bytes) stop.files (is, short) stop.each;
        cause = stop.cause;
      },
    )

longer_held : (held : Name → Option Bytes) (name : Name) (bytes : Bytes) → held name ≡ Some bytes → read_limit < length bytes → IsLonger (Some held) name read_limit
longer_held held name bytes is above = rw is above

-- the reading ends at the first name, or goes on with the others
read_on : (held : Name → Option Bytes) (name : Name) (names : List Name) (found : Option Bytes) → held name ≡ found → EndsReading held names → EndsReading held (name ∷ names)
read_on held name names None is rest =
    inr (read_fault_of name, record { files = []; name = name; rest = names; names_are = refl; each = All-nil (IsRead (Some held)); cause = inl (refl, inr is) })
read_on held name names (Some bytes) is rest =
    ⊎_elim
    (λ above. inr (too_long_of name, record { files = []; name = name; rest = names; names_are = refl; each = All-nil (IsRead (Some held)); cause = inr (refl, longer_held held name bytes is above) }))
    (λ short. read_first held name names bytes is short rest)
    (cases_lt read_limit (length bytes))

-- over files that are told, the reading of any names ends
pub ends_reading : (held : Name → Option Bytes) (names : List Name) → EndsReading held names
ends_reading held [] = inl ([], none_read held)
ends_reading held (name ∷ names) = read_on held name names (held name) refl (ends_reading held names)
