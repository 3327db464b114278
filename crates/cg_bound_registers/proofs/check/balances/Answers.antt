use Rattle.std.proofs.Common.{◌≡◌, [], length, ap, arith}
use borrow.Author.Count.{below_more}
use Rattle.cg_bound_registers.specs.declared.sums.Of.TheVariants.{From, Into}
use Rattle.cg_bound_registers.specs.Pressure.{stays, pulls, ties, from, into}
use Rattle.cg_bound_registers.proofs.Summed.{at_stays, at_pulls, at_ties}
use Rattle.cg_bound_registers.proofs.check.balances.Goals as goal

pub returns-then-out-gt1 : goal.returns-then-out-gt1
returns-then-out-gt1 c = (
  λ t. absurd (cc),
  λ b.
      let a : c.sum_stays-out.result ≡ stays c.args.kernel.now c.args.p.now (from c.loop-w.w) = at_stays c.args.kernel.now c.args.p.now [] (From c.loop-w.w) c.deref.result.now c.sum_stays-out.result c.sum_stays-out.ensures.value c.deref.ensures.value in
      let ln = ap length c.nodes.ensures.nodes in
      let h = b.one c.loop-w.w (omega (arith, ln)) in
      absurd (omega arith),
)

pub returns-then-forth-back : goal.returns-then-forth-back
returns-then-forth-back c = (
  λ t. absurd (cc),
  λ b.
      let K = c.args.kernel.now in
      let p = c.args.p.now in
      let w = c.loop-w.w in
      let a1 : c.sum_stays-out.result ≡ stays K p (from w) = at_stays K p [] (From w) c.deref.result.now c.sum_stays-out.result c.sum_stays-out.ensures.value c.deref.ensures.value in
      let a2 : c.sum_stays.result ≡ stays K p (into w) = at_stays K p [] (Into w) c.deref-in-loop-w.result.now c.sum_stays.result c.sum_stays.ensures.value c.deref-in-loop-w.ensures.value in
      let a3 : c.sum_pulls.result ≡ pulls K p (from w) = at_pulls K p [] (From w) c.deref-in-loop-w-2.result.now c.sum_pulls.result c.sum_pulls.ensures.value c.deref-in-loop-w-2.ensures.value in
      let a4 : c.sum_ties.result ≡ ties K p (from w) = at_ties K p [] (From w) c.deref-in-loop-w-3.result.now c.sum_ties.result c.sum_ties.ensures.value c.deref-in-loop-w-3.ensures.value in
      let a5 : c.sum_pulls-in-loop-w.result ≡ pulls K p (into w) = at_pulls K p [] (Into w) c.deref-in-loop-w-4.result.now c.sum_pulls-in-loop-w.result c.sum_pulls-in-loop-w.ensures.value c.deref-in-loop-w-4.ensures.value in
      let a6 : c.sum_ties-in-loop-w.result ≡ ties K p (into w) = at_ties K p [] (Into w) c.deref-in-loop-w-5.result.now c.sum_ties-in-loop-w.result c.sum_ties-in-loop-w.ensures.value c.deref-in-loop-w-5.ensures.value in
      let ln = ap length c.nodes.ensures.nodes in
      let h = b.circular w (omega (arith, ln)) in
      absurd (c.if-forth-back.true (omega arith)),
)

pub loop-w-preserved : goal.loop-w-preserved
loop-w-preserved c =
    let K = c.args.kernel.now in
    let p = c.args.p.now in
    let w = c.loop-w.w in
    let a1 : c.sum_stays-out.result ≡ stays K p (from w) = at_stays K p [] (From w) c.deref.result.now c.sum_stays-out.result c.sum_stays-out.ensures.value c.deref.ensures.value in
    let a2 : c.sum_stays.result ≡ stays K p (into w) = at_stays K p [] (Into w) c.deref-in-loop-w.result.now c.sum_stays.result c.sum_stays.ensures.value c.deref-in-loop-w.ensures.value in
    let a3 : c.sum_pulls.result ≡ pulls K p (from w) = at_pulls K p [] (From w) c.deref-in-loop-w-2.result.now c.sum_pulls.result c.sum_pulls.ensures.value c.deref-in-loop-w-2.ensures.value in
    let a4 : c.sum_ties.result ≡ ties K p (from w) = at_ties K p [] (From w) c.deref-in-loop-w-3.result.now c.sum_ties.result c.sum_ties.ensures.value c.deref-in-loop-w-3.ensures.value in
    let a5 : c.sum_pulls-in-loop-w.result ≡ pulls K p (into w) = at_pulls K p [] (Into w) c.deref-in-loop-w-4.result.now c.sum_pulls-in-loop-w.result c.sum_pulls-in-loop-w.ensures.value c.deref-in-loop-w-4.ensures.value in
    let a6 : c.sum_ties-in-loop-w.result ≡ ties K p (into w) = at_ties K p [] (Into w) c.deref-in-loop-w-5.result.now c.sum_ties-in-loop-w.result c.sum_ties-in-loop-w.ensures.value c.deref-in-loop-w-5.ensures.value in
    (below_more _ _ c.loop-w.invariant.0 (omega arith), below_more _ _ c.loop-w.invariant.1 (omega arith))
