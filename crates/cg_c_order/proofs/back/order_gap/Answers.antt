use Rattle.std.proofs.Common.{◌≡◌, ◌-◌, arith, length, subst}
use Rattle.std.specs.Prelude.{flat_map}
use Rattle.std.specs.List.{range_with_len}
use Rattle.std.proofs.lemmas.Result.{err_from_is_err_and}
use Rattle.cg_c_order.specs.Accesses.{back_at, back_to}
use Rattle.cg_c_order.specs.Choosing.{Takes}
use Rattle.cg_c_order.proofs.Passes.{rising_exceeds, rising_next}
use Rattle.cg_c_order.proofs.back.order_gap.Goals as goal

pub loop-node-preserved : goal.loop-node-preserved
loop-node-preserved c =
    rising_next (back_to c.args.table.now c.args.gap) c.args.closing.now c.loop-node.closing 0 c.loop-node.node (omega arith) c.loop-node.invariant c.order_pair.new.closing c.in_ok-order_pair.ensures.taken

pub returns-in_err-order_pair-clause-many : goal.returns-in_err-order_pair-clause-many
unfolding back_at
returns-in_err-order_pair-clause-many c = λ e.
    let p = err_from_is_err_and c.from_residual.result c.from_residual.ensures.1 in
    rising_exceeds (back_to c.args.table.now c.args.gap) c.args.closing.now c.loop-node.closing 0 c.loop-node.node (omega arith) c.loop-node.invariant (length c.args.table.now - c.args.gap) (omega arith)
    (c.in_err-order_pair.ensures.many (cc (p.1, p.2, e)))

pub returns-clause-taken : goal.returns-clause-taken
unfolding back_at
returns-clause-taken c =
    let last : c.loop-node.node - 0 ≡ length c.args.table.now - c.args.gap = omega arith in
    subst (λ n. Takes c.args.closing.now (flat_map (back_to c.args.table.now c.args.gap) (range_with_len 0 n)) c.loop-node.closing) last c.loop-node.invariant
