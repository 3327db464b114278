use Rattle.std.proofs.Common.{◌≡◌, ◌-◌, arith, length, subst}
use Rattle.std.specs.Prelude.{flat_map}
use Rattle.std.specs.List.{range_with_len}
use Rattle.std.proofs.lemmas.Result.{err_from_is_err_and}
use Rattle.cg_c_order.specs.Accesses.{all_forth, forth_at}
use Rattle.cg_c_order.specs.Choosing.{Takes}
use Rattle.cg_c_order.proofs.Passes.{rising_exceeds, rising_next}
use Rattle.cg_c_order.proofs.forth.order_forth.Goals as goal

pub loop-gap-preserved : goal.loop-gap-preserved
loop-gap-preserved c =
    record {
      far = omega arith;
      chosen = rising_next (forth_at c.args.table.now) c.args.draft.now c.loop-gap.draft 1 c.loop-gap.gap (omega arith) c.loop-gap.invariant.chosen c.order_gap.new.draft c.in_ok-order_gap.ensures.taken;
    }

pub returns-in_err-order_gap-clause-many : goal.returns-in_err-order_gap-clause-many
unfolding all_forth
returns-in_err-order_gap-clause-many c = λ e.
    let p = err_from_is_err_and c.from_residual.result c.from_residual.ensures.1 in
    rising_exceeds (forth_at c.args.table.now) c.args.draft.now c.loop-gap.draft 1 c.loop-gap.gap (omega arith) c.loop-gap.invariant.chosen (length c.args.table.now - 1) (omega arith)
    (c.in_err-order_gap.ensures.many (cc (p.1, p.2, e)))

pub returns-clause-taken : goal.returns-clause-taken
unfolding all_forth
returns-clause-taken c =
    let last : c.loop-gap.gap - 1 ≡ length c.args.table.now - 1 = omega arith in
    subst (λ n. Takes c.args.draft.now (flat_map (forth_at c.args.table.now) (range_with_len 1 n)) c.loop-gap.draft) last c.loop-gap.invariant.chosen
