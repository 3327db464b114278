use Rattle.cg_c_order.proofs.Joining.{next_joined, next_same}
use Rattle.cg_c_order.proofs.Tables.{join_square}
use Rattle.cg_c_order.proofs.chains.add_next.Goals as goal

pub returns-in_ok-targets-clause-table : goal.returns-in_ok-targets-clause-table
returns-in_ok-targets-clause-table c = λ es turning t o.
    next_joined _ es turning c.args.edge c.requires.from c.requires.to c.args.near.now c.args.next.now t o c.if-edge-eq1.true _ _ c.in_ok-sources.ensures c.in_ok-targets.ensures c.join_rows.new.rows c.join_rows.ensures

pub returns-else-edge-eq1-clause-table : goal.returns-else-edge-eq1-clause-table
returns-else-edge-eq1-clause-table c = λ es turning t o. next_same _ es turning c.args.edge c.requires.from c.requires.to c.args.near.now c.args.next.now t o c.if-edge-eq1.false

pub returns-in_ok-targets-clause-square : goal.returns-in_ok-targets-clause-square
returns-in_ok-targets-clause-square c = join_square _ _ c.args.edge.to _ c.args.next.now c.join_rows.new.rows c.requires.square c.join_rows.ensures
