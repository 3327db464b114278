-- The result of reading a value that may be malformed, or where memory may run out.
use Rattle.std.specs.Prelude.{◌≡◌, Option, Some, None, Result, Ok, Err}
pub use Rattle.cg_reading.specs.declared.misfit.Misfit.{Misfit}
use Rattle.cg_reading.specs.declared.misfit.Misfit.TheVariants.{Memory, WrongShape}

-- what the value reads as, or `WrongShape` where it can't be read; or memory ran out
abbrev pub IsRead : {T : Type 0} → Option T → Result T (Misfit (Unit {0})) → Type 0
IsRead read (Ok item) = read ≡ Some item
IsRead read (Err (WrongShape place)) = read ≡ None
IsRead read (Err Memory) = Unit {0}

-- what the value reads as, or the place of the wrong shape; or memory ran out
abbrev pub IsReadAt : {T P : Type 0} → Result T P → Result T (Misfit P) → Type 0
IsReadAt read (Ok value) = read ≡ Ok value
IsReadAt read (Err (WrongShape place)) = read ≡ Err place
IsReadAt read (Err Memory) = Unit {0}

-- the misfit, with the place that its place represents
abbrev pub IsAt : {P Q : Type 0} → (P → Q → Type 0) → Misfit P → Misfit Q → Type 0
IsAt StandsFor Memory misfit = misfit ≡ Memory
IsAt StandsFor (WrongShape place) (WrongShape other) = StandsFor place other
IsAt StandsFor (WrongShape place) Memory = ⊥
