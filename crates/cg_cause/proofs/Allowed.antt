-- Of what a command allows.
use Rattle.std.proofs.Common.{◌≡◌, Result, Ok, Err, subst, sym, ap}
use Rattle.std.specs.Prelude.{IsErrAnd, IfErr}
use Rattle.cg_effects.specs.declared.outcome.Outcome.{Outcome as OutcomeValue}
use Rattle.cg_effects.specs.Outcome.{Outcome, outcome_of}
use Rattle.cg_cause.specs.declared.stop.Stop.{Stop}
use Rattle.cg_cause.specs.declared.stop.Stop.TheVariants.{Refused, Memory}
use Rattle.cg_cause.specs.Allowed.{Allows, EndsBy, IsRefusalOf, IsConclusion}

-- where each outcome that is P is Q
pub ends_weaker : (P Q : Outcome → Type 0) (s : Stop) → ((o : Outcome) → P o → Q o) → EndsBy P s → EndsBy Q s
ends_weaker P Q (Refused file cause) w h = w _ h
ends_weaker P Q Memory w h = tt

pub allows_weaker : (P Q : Outcome → Type 0) (r : Result OutcomeValue Stop) → ((o : Outcome) → P o → Q o) → Allows P r → Allows Q r
allows_weaker P Q (Ok o) w h = w _ h
allows_weaker P Q (Err s) w h = ends_weaker P Q s w h

-- a call that passes on what ended an inner one
pub stopped : (P : Outcome → Type 0) (s : Stop) (r : Result OutcomeValue Stop) → IsErrAnd r (λ e. e ≡ s) → EndsBy P s → Allows P r
stopped P s (Ok o) h p = absurd h
stopped P s (Err e) h p = subst (EndsBy P) (sym h) p

-- a reader that passes on what ended an inner one
pub passed_on : {X : Type 0} (P Q : Outcome → Type 0) (s : Stop) (r : Result X Stop) → IsErrAnd r (λ e. e ≡ s) → ((o : Outcome) → P o → Q o) → EndsBy P s → IfErr r (EndsBy Q)
passed_on P Q s (Ok x) h w p = absurd h
passed_on P Q s (Err e) h w p = subst (EndsBy Q) (sym h) (ends_weaker P Q s w p)

refusal_is : (P : Outcome → Type 0) (s : Stop) (o : OutcomeValue) → IsRefusalOf s o → EndsBy P s → P (outcome_of o)
refusal_is P (Refused file cause) o is p = subst P (sym is) p
refusal_is P Memory o is p = absurd is

-- the outcome with which a command ended is allowed
pub concluded : (P : Outcome → Type 0) (r : Result OutcomeValue Stop) (o : OutcomeValue) → IsConclusion r o → Allows P r → P (outcome_of o)
concluded P (Ok given) o is p = subst (λ z. P (outcome_of z)) (sym is) p
concluded P (Err s) o is p = refusal_is P s o is p
