-- The names of the files that a store was asked to read or to write, where it reveals them.
use Rattle.std.specs.Prelude.{◌≡◌, ℕ, List, [], ◌∷◌, ◌++◌, take, Option, Some, None}

-- the names of the calls so far, in order; `None` where the store doesn't reveal them
abbrev pub Names : Type 0
Names = Option (List (List ℕ))

-- these names were appended to the old ones, each once and in order
abbrev pub NotesAll : Names → List (List ℕ) → Names → Type 0
NotesAll (Some old) names (Some new) = new ≡ old ++ names
NotesAll None names None = Unit {0}
NotesAll _ names _ = ⊥

-- this name was appended to the old ones
abbrev pub Notes : Names → List ℕ → Names → Type 0
Notes old name new = NotesAll old (name ∷ []) new

-- a prefix of these names, possibly none or all, was appended to the old ones, each once and in order
abbrev pub NotesPart : Names → List (List ℕ) → Names → Type 0
NotesPart (Some old) names (Some new) = (n : ℕ) × (new ≡ old ++ take n names)
NotesPart None names None = Unit {0}
NotesPart _ names _ = ⊥
