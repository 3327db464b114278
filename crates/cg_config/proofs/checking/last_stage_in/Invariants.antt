use Rattle.std.proofs.Common.{◌≡◌}
use Rattle.cg_model.specs.Config.{fields}
use Rattle.cg_model.specs.Canonical.{greatest_of, stage_of}
use Rattle.cg_config.proofs.checking.last_stage_in.Given as goal

abbrev pub invariant-loop-x : goal.invariant-loop-x
invariant-loop-x l = l.last ≡ greatest_of (λ x. stage_of (fields l.config x l.slot)) l.x
