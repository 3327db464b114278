use Rattle.std.proofs.Common.{sym, ◌∙◌}
use Rattle.cg_check.specs.Claims.{clash_on}
use Rattle.cg_check.proofs.Lists.{first_below_start, first_below_next, first_below_returned}
use Rattle.cg_check.proofs.clashes.clash_in.Goals as goal

pub loop-resource-init : goal.loop-resource-init
loop-resource-init c = first_below_start (clash_on c.args.table.now c.args.ii)

pub returns-then-is_some : goal.returns-then-is_some
returns-then-is_some c =
    first_below_returned (clash_on c.args.table.now c.args.ii) c.args.resources c.loop-resource.resource c.clash_on-clash.result c.loop-resource-test.true c.loop-resource.invariant c.clash_on-clash.ensures (sym c.is_some.ensures ∙ c.if-is_some.true)

pub loop-resource-preserved : goal.loop-resource-preserved
loop-resource-preserved c =
    first_below_next (clash_on c.args.table.now c.args.ii) c.loop-resource.resource c.clash_on-clash.result c.loop-resource.invariant c.clash_on-clash.ensures (sym c.is_some.ensures ∙ c.if-is_some.false)
