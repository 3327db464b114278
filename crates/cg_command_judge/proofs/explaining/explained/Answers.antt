use Rattle.std.proofs.Common.{◌∙◌, ap, List, ℕ}
use Rattle.cg_effects.specs.declared.outcome.Status.TheVariants.{Done}
use Rattle.cg_effects.specs.Refusals.{reports}
use Rattle.cg_command_judge.proofs.explaining.explained.Goals as goal

pub returns : goal.returns
returns c = record { why = c.in_ok-found.found; is_why = c.in_ok-found.ensures; outcome = c.new.ensures.reports ∙ ap (λ (z : List ℕ). reports Done z) c.in_ok-report.ensures }
