-- What a command answers, given what was read of its files.
use Rattle.std.specs.Prelude.{◌≡◌, ◌≢◌, ◌⊎◌, Result, Ok, Err}
use Rattle.cg_effects.specs.Outcome.{Name, Bytes, Outcome}
use Rattle.cg_effects.specs.Refusals.{malformed_of}

-- what is done with the contents of the files, or the refusal of one of them
abbrev pub DoneWith : {X : Type 0} → (X → Outcome → Type 0) → Result X Outcome → Outcome → Type 0
DoneWith Does (Ok x) o = Does x o
DoneWith Does (Err refused) o = o ≡ refused

-- the files were read, and this was done with their contents, or one of them was refused
pub record ReadThen {X : Type 0} (Reads : Result X Outcome → Type 0) (Does : X → Outcome → Type 0) (o : Outcome) : Type 0 where
  pub read : Result X Outcome
  pub is_read : Reads read
  pub answer : DoneWith Does read o

-- one thing is read and then, given its content, another; the first that is refused ends it
abbrev pub ReadBoth : {X Y : Type 0} → (Result X Outcome → Type 0) → (X → Result Y Outcome → Type 0) → Result (X × Y) Outcome → Type 0
ReadBoth First Next (Ok p) = First (Ok p.0) × Next p.0 (Ok p.1)
ReadBoth {X = X} First Next (Err refused) = First (Err refused) ⊎ ((x : X) × First (Ok x) × Next x (Err refused))

-- the file of this name is parsed: its content, or the refusal with the text of the fault
abbrev pub Parsed : {X F : Type 0} → (Result X F → Type 0) → (F → Bytes) → Name → Result X Outcome → Type 0
Parsed IsAnswer text file (Ok x) = IsAnswer (Ok x)
Parsed {F = F} IsAnswer text file (Err refused) = (f : F) × IsAnswer (Err f) × (refused ≡ malformed_of file (text f))

-- the answer isn't that memory ran out
abbrev pub WithMemory : {X F : Type 0} → (Result X F → Type 0) → F → Result X F → Type 0
WithMemory IsAnswer memory (Ok x) = IsAnswer (Ok x)
WithMemory IsAnswer memory (Err f) = IsAnswer (Err f) × (f ≢ memory)
