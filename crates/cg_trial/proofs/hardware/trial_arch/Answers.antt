use Rattle.std.proofs.Common.{refl, subst}
use Rattle.cg_validate.specs.Answer.{IsFault}
use Rattle.cg_trial.proofs.Faultless.{no_fault}
use Rattle.cg_trial.proofs.hardware.trial_arch.Goals as goal

pub unreachable-requires : goal.unreachable-requires
unreachable-requires c = no_fault 96 refl c.in-Err.fault (subst (λ p. IsFault p c.in-Err.fault) c.in_ok-parts_with.ensures (c.in-Err.ensures.answer c.in_default.not-Memory))
