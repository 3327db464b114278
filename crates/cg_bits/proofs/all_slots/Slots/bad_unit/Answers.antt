use Rattle.std.proofs.Common.{sym, ◌∙◌}
use Rattle.cg_bits.specs.Numbers.{bits_of_bytes}
use Rattle.cg_bits.specs.Checks.{slot_faults}
use Rattle.cg_bits.proofs.First.{first_joined, first_none, joined_none_zero, joined_none_more}
use Rattle.cg_bits.proofs.all_slots.Slots.bad_unit.Goals as goal

pub loop-slot-init : goal.loop-slot-init
loop-slot-init c = joined_none_zero _

pub returns-in-Some : goal.returns-in-Some
returns-in-Some c =
    let s = c.args.self.now in
    sym (first_joined (slot_faults s.format s.arch.now (bits_of_bytes s.body.now) c.args.check) s.ii c.loop-slot.slot c.in-Some.place c.loop-slot.invariant c.loop-slot-test.true (sym c.bad_unit_in.ensures ∙ c.in-Some.is))

pub loop-slot-preserved : goal.loop-slot-preserved
loop-slot-preserved c = joined_none_more _ c.loop-slot.slot c.loop-slot.invariant (first_none _ (sym c.in_default.is ∙ c.bad_unit_in.ensures))
