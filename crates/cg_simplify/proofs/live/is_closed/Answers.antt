use Rattle.std.proofs.Common.{◌≡◌, sym, subst, arith, ⊎_elim}
use Rattle.std.proofs.lemmas.Bool.{cases_lt}
use Rattle.cg_simplify.specs.Live.{IsSettled}
use Rattle.cg_simplify.proofs.live.is_closed.Goals as goal

pub loop-number-preserved : goal.loop-number-preserved
loop-number-preserved c = λ v l.
    ⊎_elim (λ b. c.loop-number.invariant v b)
    (λ b.
    let e : v ≡ c.loop-number.number = omega arith in
    subst (IsSettled c.args.kernel.now c.args.marks.now) (sym e) (c.is_settled.ensures c.if-not-is_settled.false))
    (cases_lt v c.loop-number.number)
