-- The result of a call that may run out of memory.
use Rattle.std.specs.Prelude.{◌≡◌, ◌≢◌, Result, Ok, Err}

-- the result is what the definition says, or memory ran out
abbrev pub Gives : {T F : Type 0} → F → Result T F → Result T F → Type 0
Gives memory (Ok value) answer = Ok value ≡ answer
Gives memory (Err fault) answer = fault ≢ memory → Err fault ≡ answer
