use Rattle.std.proofs.Common.{add-one, false, sym}
use Rattle.std.specs.Prelude.{eqb}
use Rattle.std.proofs.lemmas.Bool.{eq-eqb, ne_eqb}
use Rattle.cg_c_order.specs.Accesses.{Access}
use Rattle.cg_c_order.proofs.Found.{found_at, found_more}
use Rattle.cg_c_order.proofs.lookup.access_of.Goals as goal

pub loop-access-preserved : goal.loop-access-preserved
loop-access-preserved c =
    rw add-one
    (found_more (λ (a : Access). eqb a.node c.args.node) c.args.accesses.now c.loop-access.access-index (record { node = 0; array = 0; stores = false }) c.loop-access-test.true c.loop-access.invariant
    (ne_eqb _ _ c.if-access-node.false))

pub returns-then-access-node : goal.returns-then-access-node
returns-then-access-node c =
    sym
    (found_at (λ (a : Access). eqb a.node c.args.node) c.args.accesses.now c.loop-access.access-index (record { node = 0; array = 0; stores = false }) c.loop-access-test.true c.loop-access.invariant
    (eq-eqb _ _ c.if-access-node.true))
