-- The names that are visible at a place, and what they stand for.
use Rattle.std.specs.Prelude.{ℕ, ◌-◌, ◌^◌, Bool, not, ◌==◌, bytes_eq, codes, is_some, List, [], ◌∷◌, Option, Ok, Err}
use Rattle.std.specs.Map.{lookup}
use Rattle.cg_word.specs.Word.{words}
use Rattle.cg_c_syntax.specs.declared.expression.Named.{Named}
use Rattle.cg_c_syntax.specs.declared.statement.Signedness.TheVariants.{Signed, Unsigned}
use Rattle.cg_c_check.specs.declared.fault.CheckFault.TheVariants.{Reserved, RepeatedName, UnknownName, WrongUse}
pub use Rattle.cg_c_check.specs.declared.names.Meaning.{Meaning}
use Rattle.cg_c_check.specs.declared.names.Meaning.TheVariants as meanings
pub use Rattle.cg_c_check.specs.declared.names.Shape.{Shape}
use Rattle.cg_c_check.specs.Faults.{Checked, ◌>>=◌, ◌>>◌, demand, found}
use Rattle.cg_c_check.specs.Reserved.{is_reserved}

-- names with what they stand for, the last declared one first
abbrev pub Names : Type 0
Names = List (List ℕ × Meaning)

-- the names that the headers declare
abbrev pub predeclared : Names
predeclared =
    (codes "INT32_MAX", meanings.Constant (record { word = 2 ^ 31 - 1; signedness = Signed }))
    ∷ (codes "INT32_MIN", meanings.Constant (record { word = 2 ^ 31; signedness = Signed }))
    ∷ (codes "UINT32_MAX", meanings.Constant (record { word = words - 1; signedness = Unsigned }))
    ∷ []

-- what a name stands for, if it is visible
abbrev pub meaning_of : Names → List ℕ → Option Meaning
meaning_of names name = lookup (bytes_eq name) names

abbrev pub is_visible : Names → List ℕ → Bool
is_visible names name = is_some (meaning_of names name)

-- F5: a name is visible where it is used
abbrev pub known : Names → Named → Checked Meaning
known names name = found (meaning_of names name.name) (UnknownName name.place)

-- F3, F4: a name may be declared that is not reserved, and not visible yet; the names with it
unfoldable pub declared : Names → Named → Meaning → Checked Names
declared names name meaning = do
  demand (not (is_reserved name.name)) (Reserved name.place)
  demand (not (is_visible names name.name)) (RepeatedName name.place)
  Ok ((name.name, meaning) ∷ names)

-- F6: an array with as many indices as it has dimensions
abbrev pub array_named : (place indices : ℕ) → Meaning → Checked Shape
array_named place indices (meanings.Array shape) = demand (shape.dimensions == indices) (WrongUse place) >> Ok shape
array_named place indices _ = Err (WrongUse place)

-- F6: an array with as many indices as it has dimensions that is no table
abbrev pub writable_named : (place indices : ℕ) → Meaning → Checked Shape
writable_named place indices meaning = do
  shape ← array_named place indices meaning
  demand (not shape.table) (WrongUse place)
  Ok shape
