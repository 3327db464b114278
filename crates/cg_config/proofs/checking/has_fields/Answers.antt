use Rattle.std.proofs.Common.{below_more}
use Rattle.cg_config.specs.Parts.{HasFields}
use Rattle.cg_config.proofs.checking.has_fields.Goals as goal

pub loop-slot-preserved : goal.loop-slot-preserved
loop-slot-preserved c =
    below_more (λ s. HasFields c.args.arch.now c.args.config.now s) c.loop-slot.slot c.loop-slot.invariant (c.has_fields_in.ensures.0 c.if-not-has_fields_in.false)
