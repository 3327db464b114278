use Rattle.std.proofs.Common.{◌≡◌, ℕ, zero, suc, ◌+◌, ◌-◌, ◌≤◌, ap, arith, length, subst}
use Rattle.std.specs.Prelude.{flat_map, min, reverse}
use Rattle.std.specs.List.{range_with_len}
use Rattle.std.proofs.lemmas.Result.{err_from_is_err_and}
use Rattle.cg_c_order.specs.Accesses.{all_back, back_at}
use Rattle.cg_c_order.specs.Choosing.{Takes}
use Rattle.cg_c_order.proofs.Passes.{falling_exceeds, falling_next}
use Rattle.cg_c_order.proofs.back.order_back.Goals as goal

pub loop-gap-preserved : goal.loop-gap-preserved
loop-gap-preserved c =
    let n = length c.args.table.now in
    let x = c.loop-gap.gap - 1 in
    let high = c.loop-gap.auto.gap in
    let next : c.loop-gap.gap ≡ x + 1 = omega arith in
    let done = subst (λ g. Takes c.args.closing.now (flat_map (back_at c.args.table.now) (reverse (range_with_len g (n - g)))) c.loop-gap.closing) next c.loop-gap.invariant.chosen in
    record {
      low = omega arith;
      chosen = falling_next (back_at c.args.table.now) c.args.closing.now c.loop-gap.closing n x (omega arith) done c.order_gap.new.closing c.in_ok-order_gap.ensures.taken;
    }

pub returns-in_err-order_gap-clause-many : goal.returns-in_err-order_gap-clause-many
unfolding all_back
returns-in_err-order_gap-clause-many c = λ e.
    let n = length c.args.table.now in
    let x = c.loop-gap.gap - 1 in
    let high = c.loop-gap.auto.gap in
    let next : c.loop-gap.gap ≡ x + 1 = omega arith in
    let done = subst (λ g. Takes c.args.closing.now (flat_map (back_at c.args.table.now) (reverse (range_with_len g (n - g)))) c.loop-gap.closing) next c.loop-gap.invariant.chosen in
    let p = err_from_is_err_and c.from_residual.result c.from_residual.ensures.1 in
    falling_exceeds (back_at c.args.table.now) c.args.closing.now c.loop-gap.closing n x (omega arith) done 1 (omega arith) (c.in_err-order_gap.ensures.many (cc (p.1, p.2, e)))

-- with no node there is no difference
last : (n g : ℕ) → g ≤ 1 → min 1 n ≤ g → range_with_len g (n - g) ≡ range_with_len 1 (n - 1)
last zero g l h = ap (λ k. range_with_len g k) (let e : 0 - g ≡ 0 = omega arith in e)
last (suc n) g l h = ap (λ k. range_with_len k (suc n - k)) (let e : g ≡ 1 = omega arith in e)

pub returns-clause-taken : goal.returns-clause-taken
unfolding all_back
returns-clause-taken c =
    let n = length c.args.table.now in
    let e = last n c.loop-gap.gap c.loop-gap-test.false c.loop-gap.invariant.low in
    subst (λ xs. Takes c.args.closing.now (flat_map (back_at c.args.table.now) (reverse xs)) c.loop-gap.closing) e c.loop-gap.invariant.chosen
