use Rattle.cg_simplify_order.proofs.Adding.{row_more}
use Rattle.cg_simplify_order.proofs.needs.add_row.Goals as goal

pub loop-v-preserved : goal.loop-v-preserved
loop-v-preserved c =
    row_more c.args.rewriting.now.given c.args.rewriting.now.rewritten c.args.needs.now.items c.loop-v.needs.items c.add_need.new.needs.items c.args.u c.loop-v.v c.loop-v.invariant c.in_ok-add_need.ensures
