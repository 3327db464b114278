-- The result of a command: the outcome that it returns, or an early end, where a file is refused or memory runs out.
use Rattle.std.specs.Prelude.{◌≡◌, Result, Ok, Err, string_bytes}
use Rattle.cg_effects.specs.declared.outcome.Outcome.{Outcome as OutcomeValue}
use Rattle.cg_effects.specs.Outcome.{Outcome, outcome_of}
use Rattle.cg_effects.specs.Refusals.{malformed_of}
use Rattle.cg_cause.specs.declared.stop.Stop.{Stop}
use Rattle.cg_cause.specs.declared.stop.Stop.TheVariants.{Refused, Memory}
use Rattle.cg_cause.specs.Cause.{cause_text}

-- the command ends early, with the refusal of a file that satisfies P, or because memory ran out
abbrev pub EndsBy : (Outcome → Type 0) → Stop → Type 0
EndsBy P (Refused file cause) = P (malformed_of (string_bytes file) (cause_text cause))
EndsBy P Memory = Unit {0}

-- the outcome, returned or that of an early end, satisfies P. Nothing is said where memory runs out
abbrev pub Allows : (Outcome → Type 0) → Result OutcomeValue Stop → Type 0
Allows P (Ok o) = P (outcome_of o)
Allows P (Err s) = EndsBy P s

-- the outcome reports the file that the early end refuses
abbrev pub IsRefusalOf : Stop → OutcomeValue → Type 0
IsRefusalOf (Refused file cause) o = outcome_of o ≡ malformed_of (string_bytes file) (cause_text cause)
IsRefusalOf Memory o = ⊥

-- the outcome is the one that the command returned, or that of its early end
abbrev pub IsConclusion : Result OutcomeValue Stop → OutcomeValue → Type 0
IsConclusion (Ok given) o = o ≡ given
IsConclusion (Err s) o = IsRefusalOf s o
