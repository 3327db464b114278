use Rattle.std.proofs.lemmas.Result.{IfOk-weaker}
use Rattle.cg_c_kernel.proofs.Making.{one_adds, one_is}
use Rattle.cg_c_kernel.proofs.emission.Emission.one.Goals as goal

pub returns-clause-adds : goal.returns-clause-adds
returns-clause-adds c =
    IfOk-weaker c.push.result _ _
    (λ m p. one_adds _ _ _ _ _ m _ _ _ _ c.requires.stands c.requires.ready c.in_ok-first.ensures.grows c.in_ok-first.ensures.is p) c.push.ensures

pub returns-clause-is : goal.returns-clause-is
returns-clause-is c = IfOk-weaker c.push.result _ _ (λ m p. one_is _ _ _ m _ _ _ _ c.in_ok-first.ensures.is p) c.push.ensures
