use Rattle.std.proofs.Common.{sym, ◌∙◌}
use Rattle.cg_check.specs.Claims.{clash_at}
use Rattle.cg_check.proofs.Lists.{first_below_start, first_below_next, first_below_returned}
use Rattle.cg_check.proofs.clashes.clash_on.Goals as goal

pub loop-slot-init : goal.loop-slot-init
loop-slot-init c = first_below_start (clash_at c.args.table.now c.args.ii c.args.resource)

pub returns-then-is_some : goal.returns-then-is_some
returns-then-is_some c =
    first_below_returned (clash_at c.args.table.now c.args.ii c.args.resource) c.args.ii c.loop-slot.slot c.clash_at-clash.result c.loop-slot-test.true c.loop-slot.invariant c.clash_at-clash.ensures (sym c.is_some.ensures ∙ c.if-is_some.true)

pub loop-slot-preserved : goal.loop-slot-preserved
loop-slot-preserved c = first_below_next (clash_at c.args.table.now c.args.ii c.args.resource) c.loop-slot.slot c.clash_at-clash.result c.loop-slot.invariant c.clash_at-clash.ensures (sym c.is_some.ensures ∙ c.if-is_some.false)
