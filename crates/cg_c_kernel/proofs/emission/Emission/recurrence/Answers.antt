use Rattle.std.proofs.lemmas.Result.{IfOk-weaker}
use Rattle.cg_c_kernel.proofs.Recurring.{recurred}
use Rattle.cg_c_kernel.proofs.emission.Emission.recurrence.Goals as goal

pub returns : goal.returns
returns c =
    IfOk-weaker c.push-5.result _ _
    (λ m p. recurred _ _ _ _ _ _ _ _ c.in_ok-first.first _ _ _ _ m c.args.divisor _ c.requires c.in_ok-first.ensures c.apply-less.ensures c.in_ok-wraps.ensures c.in_ok-again.ensures c.in_ok-further.ensures c.in_ok-push.ensures p) c.push-5.ensures
