use Rattle.std.proofs.Common.{◌≡◌, length}
use Rattle.cg_model.specs.Config.{fields}
use Rattle.cg_model.specs.Canonical.{greatest_of, stage_of}
use Rattle.cg_config.proofs.checking.last_stage.Given as goal

abbrev pub invariant-loop-slot : goal.invariant-loop-slot
invariant-loop-slot l = l.last ≡ greatest_of (λ s. greatest_of (λ x. stage_of (fields l.config x s)) (length l.arch.units)) l.slot
