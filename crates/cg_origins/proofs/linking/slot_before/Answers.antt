use Rattle.std.proofs.Common.{arith}
use Rattle.cg_origins.proofs.WalkSlots.{before_low, before_high}
use Rattle.cg_origins.proofs.linking.slot_before.Goals as goal

pub returns-then-back-slot-clause-before : goal.returns-then-back-slot-clause-before
returns-then-back-slot-clause-before c = λ c' h l.
    before_low c.args.ii c.args.slot c.args.cycles c' (omega arith) h l c.if-back-slot.true

pub returns-else-back-slot-clause-before : goal.returns-else-back-slot-clause-before
returns-else-back-slot-clause-before c = λ c' h l.
    before_high c.args.ii c.args.slot c.args.cycles c' (omega arith) h l c.if-back-slot.false
