-- How a call ended, as a number.
use Rattle.std.specs.Prelude.{ℕ, Bool, true, false}
use Rattle.cg_effects.specs.declared.outcome.Status.{Status}
use Rattle.cg_effects.specs.declared.outcome.Status.TheVariants.{Done, Memory, Usage, Malformed, Impossible, ReadFault, WriteFault, BudgetSpent, No}

-- the exit status of the program
abbrev pub number_of : Status → ℕ
number_of Done = 0
number_of Memory = 1
number_of Usage = 2
number_of Malformed = 3
number_of Impossible = 4
number_of ReadFault = 5
number_of WriteFault = 6
number_of BudgetSpent = 7
number_of No = 8

-- the statuses after which no write call was made, except No of a command that writes
abbrev pub leaves_all : Status → Bool
leaves_all Usage = true
leaves_all Malformed = true
leaves_all Impossible = true
leaves_all ReadFault = true
leaves_all BudgetSpent = true
leaves_all _ = false
