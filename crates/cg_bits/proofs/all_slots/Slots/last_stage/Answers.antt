use Rattle.std.proofs.Common.{◌∙◌}
use Rattle.cg_bits.specs.Numbers.{bits_of_bytes}
use Rattle.cg_bits.specs.Checks.{slot_stage}
use Rattle.cg_bits.proofs.Places.{greatest_none, greatest_more}
use Rattle.cg_bits.proofs.all_slots.Slots.last_stage.Goals as goal

pub loop-slot-init : goal.loop-slot-init
loop-slot-init c = greatest_none _

pub loop-slot-preserved : goal.loop-slot-preserved
loop-slot-preserved c =
    let s = c.args.self.now in
    c.greater-last.ensures ∙ greatest_more (slot_stage s.format s.arch.now (bits_of_bytes s.body.now)) c.loop-slot.slot c.loop-slot.last c.last_stage_in.result c.loop-slot.invariant c.last_stage_in.ensures
