-- Where the store tells, what comes of reading the files of some names is a function.
use Rattle.std.proofs.Common.{◌≡◌, ◌≤◌, ◌<◌, true, false, cond, List, [], ◌∷◌, ◌++◌, map, length, Option, Some, None, All, refl, sym, ◌∙◌, ap, ◌⊎◌, inl, inr, arith, nat_le}
use Rattle.std.proofs.lemmas.Grind.{common_steps}
use Rattle.std.proofs.lemmas.List.{append-nil}
use Rattle.std.proofs.lemmas.List.Elements.{All-head, All-tail}
use Rattle.cg_files.specs.Held.{IsMissing, IsLonger}
use Rattle.cg_effects.specs.Outcome.{Name, Bytes, File, Outcome}
use Rattle.cg_effects.specs.Reads.{IsRead, AreRead, StopsAt, read_limit, read_fault_of, too_long_of}

-- all files, or the first name under which nothing is held, or too much
pub data Reading : Type 0 where
  all : List File → Reading
  missing : Name → Reading
  longer : Name → Reading

-- these files, and then what comes of the others
abbrev pub push_all : List File → Reading → Reading
push_all files (all more) = all (files ++ more)
push_all files (missing name) = missing name
push_all files (longer name) = longer name

-- what comes of a name under which this is held, and of the others
abbrev pub judged : Name → Option Bytes → Reading → Reading
judged name None rest = missing name
judged name (Some bytes) rest =
    cond (nat_le (length bytes) read_limit) (push_all (record { name = name; bytes = bytes } ∷ []) rest) (longer name)

-- what comes of these names
abbrev pub reading : (Name → Option Bytes) → List Name → Reading
reading held [] = all []
reading held (name ∷ names) = judged name (held name) (reading held names)

push_one : (file : File) (files : List File) (rest : Reading) → push_all (file ∷ []) (push_all files rest) ≡ push_all (file ∷ files) rest
push_one file files (all more) = refl
push_one file files (missing name) = refl
push_one file files (longer name) = refl

push_none : (rest : Reading) → push_all [] rest ≡ rest
push_none (all more) = refl
push_none (missing name) = refl
push_none (longer name) = refl

short : (bytes : Bytes) → length bytes ≤ read_limit → nat_le (length bytes) read_limit ≡ true
short bytes below = grind (arith, common_steps)

long : (bytes : Bytes) → read_limit < length bytes → nat_le (length bytes) read_limit ≡ false
long bytes above = grind (arith, common_steps)

-- what was read goes before what comes of the rest
pub read_then : (held : Name → Option Bytes) (files : List File) (rest : List Name) → All (IsRead (Some held)) files
    → reading held (map (λ file. file.name) files ++ rest) ≡ push_all files (reading held rest)
read_then held [] rest each = sym (push_none (reading held rest))
read_then held (file ∷ files) rest each =
    let one : IsRead (Some held) file = All-head (IsRead (Some held)) file files each in
    let more = read_then held files rest (All-tail (IsRead (Some held)) file files each) in
    rw (one.0, short file.bytes one.1, more) (push_one file files (reading held rest))

-- files that were all read are what comes of their names
pub reads_all : (held : Name → Option Bytes) (names : List Name) (files : List File) → AreRead (Some held) names files → reading held names ≡ all files
reads_all held names files read =
    let whole = read_then held files [] read.each in
    rw (← read.names_are) (ap (reading held) (sym (append-nil (map (λ file. file.name) files))) ∙ whole ∙ ap all (append-nil files))

judged_longer : (held : Name → Option Bytes) (name : Name) (found : Option Bytes) (rest : Reading) → held name ≡ found
    → IsLonger (Some held) name read_limit → judged name found rest ≡ longer name
judged_longer held name None rest is above = absurd (rw is at above)
judged_longer held name (Some bytes) rest is above = let longer_than : read_limit < length bytes = rw is at above in rw (long bytes longer_than) refl

-- where the reading stopped, a read failed, or the stop is what comes of the names
pub stops : (held : Name → Option Bytes) (rose : Type 0) (names : List Name) (outcome : Outcome) → StopsAt (Some held) rose names outcome
    → (rose × ((name : Name) × (outcome ≡ read_fault_of name)))
    ⊎ (((name : Name) × (reading held names ≡ missing name) × (outcome ≡ read_fault_of name))
    ⊎ ((name : Name) × (reading held names ≡ longer name) × (outcome ≡ too_long_of name)))
stops held rose names outcome stop = at_stop stop.cause
  where
    at_stop : ((outcome ≡ read_fault_of stop.name) × (rose ⊎ IsMissing (Some held) stop.name))
        ⊎ ((outcome ≡ too_long_of stop.name) × IsLonger (Some held) stop.name read_limit)
        → (rose × ((name : Name) × (outcome ≡ read_fault_of name)))
        ⊎ (((name : Name) × (reading held names ≡ missing name) × (outcome ≡ read_fault_of name))
        ⊎ ((name : Name) × (reading held names ≡ longer name) × (outcome ≡ too_long_of name)))
    at_stop (inl (is, inl failed)) = inl (failed, (stop.name, is))
    at_stop (inl (is, inr nothing)) = inr (inl (stop.name, rw (stop.names_are, read_then held stop.files (stop.name ∷ stop.rest) stop.each, nothing) refl, is))
    at_stop (inr (is, above)) = inr (inr (
      stop.name,
      rw (stop.names_are, read_then held stop.files (stop.name ∷ stop.rest) stop.each, judged_longer held stop.name (held stop.name) (reading held stop.rest) refl above) refl,
      is,
    ))
