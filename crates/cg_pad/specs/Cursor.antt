-- The result of a step of reading, with the bytes before and after it.
use Rattle.std.specs.Prelude.{◌≡◌, ℕ, List, Option, Some, None, Result, Ok, Err}

-- what was read, with the bytes that are left
abbrev pub with_rest : {A F : Type 0} → Result A F → List ℕ → Result (A × List ℕ) F
with_rest (Ok x) rest = Ok (x, rest)
with_rest (Err e) rest = Err e

-- the value that was read, with the bytes that are left; None leaves open what is left
abbrev pub Takes : {A : Type 0} → Option A → List ℕ → Option (A × List ℕ) → Type 0
Takes (Some x) rest answer = answer ≡ Some (x, rest)
Takes None rest answer = answer ≡ None

-- the bytes that are left after a step that gives no value
abbrev pub bytes_after : {A F : Type 0} → Result A F → List ℕ → Result (List ℕ) F
bytes_after (Ok x) rest = Ok rest
bytes_after (Err e) rest = Err e
