-- Refusals of files.
use Rattle.std.proofs.Common.{◌≡◌, [], Bool, true, Result, Ok, Err, refl, ap, ◌∙◌}
use Rattle.cg_effects.specs.declared.outcome.Status.{Status}
use Rattle.cg_effects.specs.declared.outcome.Status.TheVariants.{Malformed}
use Rattle.cg_effects.specs.Outcome.{Outcome}
use Rattle.cg_inputs.proofs.Sound.{IsSound}

-- a refusal of a file
pub record IsRefusal (o : Outcome) : Type 0 where
  pub status : o.status ≡ Malformed
  pub quiet : o.writes ≡ []

-- it is an outcome of a command
pub sound_refusal : (own_statuses : Status → Bool) (o : Outcome) → own_statuses Malformed ≡ true → IsRefusal o → IsSound own_statuses o
sound_refusal own_statuses o refuses r = record { own = ap own_statuses r.status ∙ refuses; quiet = λ h. r.quiet }

-- what isn't given is refused
abbrev pub AreRefused : {X : Type 0} → Result X Outcome → Type 0
AreRefused (Ok x) = Unit {0}
AreRefused (Err o) = IsRefusal o

-- two give the same, or are refused alike
pub data IsAlike {X : Type 0} (a b : Result X Outcome) : Type 0 where
  equal : a ≡ b → IsAlike a b
  refusals : (o p : Outcome) → a ≡ Err o → b ≡ Err p → IsAlike a b
