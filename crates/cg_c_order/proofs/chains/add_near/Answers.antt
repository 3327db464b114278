use Rattle.cg_c_order.proofs.Joining.{near_joined, near_same}
use Rattle.cg_c_order.proofs.chains.add_near.Goals as goal

pub returns-in_ok-targets : goal.returns-in_ok-targets
returns-in_ok-targets c = λ es t.
    near_joined _ es c.args.edge c.requires.from c.requires.to c.args.near.now t c.if-edge-eq0.true _ _ c.in_ok-sources.ensures c.in_ok-targets.ensures c.join_rows.new.rows c.join_rows.ensures

pub returns-else-edge-eq0 : goal.returns-else-edge-eq0
returns-else-edge-eq0 c = λ es t. near_same _ es c.args.edge c.requires.from c.requires.to c.args.near.now t c.if-edge-eq0.false
