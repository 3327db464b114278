-- Steps of a check: each gives a value, or the fault at which the check ends.
use Rattle.std.specs.Prelude.{Bool, Option, Some, None, Result, Ok, Err, if◌then◌else◌}
pub use Rattle.cg_c_check.specs.declared.fault.CheckFault.{CheckFault}

abbrev pub Checked : Type 0 → Type 0
Checked A = Result A CheckFault

infixl 10 ◌>>=◌
abbrev pub ◌>>=◌ : {A B : Type 0} → Checked A → (A → Checked B) → Checked B
Ok a >>= next = next a
Err fault >>= next = Err fault

infixl 10 ◌>>◌
abbrev pub ◌>>◌ : {A B : Type 0} → Checked A → Checked B → Checked B
Ok a >> next = next
Err fault >> next = Err fault

-- the rule holds, or else there is this fault
abbrev pub demand : Bool → CheckFault → Checked (Unit {0})
demand holds fault = if holds then Ok tt else Err fault

-- what is there, or else there is this fault
abbrev pub found : {A : Type 0} → Option A → CheckFault → Checked A
found (Some a) fault = Ok a
found None fault = Err fault
