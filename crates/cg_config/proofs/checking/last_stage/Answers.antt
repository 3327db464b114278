use Rattle.std.proofs.Common.{length, ◌∙◌}
use Rattle.cg_model.specs.Config.{fields}
use Rattle.cg_model.specs.Canonical.{greatest_of, stage_of}
use Rattle.cg_config.proofs.Canonicals.{greatest_none, greatest_more}
use Rattle.cg_config.proofs.checking.last_stage.Goals as goal

pub loop-slot-init : goal.loop-slot-init
loop-slot-init c = greatest_none (λ s. greatest_of (λ x. stage_of (fields c.args.config.now x s)) (length c.args.arch.now.units))

pub loop-slot-preserved : goal.loop-slot-preserved
loop-slot-preserved c =
    c.max-last.ensures
    ∙ greatest_more (λ s. greatest_of (λ x. stage_of (fields c.args.config.now x s)) (length c.args.arch.now.units)) c.loop-slot.slot c.loop-slot.last c.last_stage_in.result c.loop-slot.invariant c.last_stage_in.ensures
