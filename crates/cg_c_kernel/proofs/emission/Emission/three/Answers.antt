use Rattle.std.proofs.lemmas.Result.{IfOk-weaker}
use Rattle.cg_c_kernel.proofs.Growing.{grown}
use Rattle.cg_c_kernel.proofs.Making.{ready_grows, three_adds, three_is}
use Rattle.cg_c_kernel.proofs.emission.Emission.three.Goals as goal

pub returns-clause-adds : goal.returns-clause-adds
returns-clause-adds c =
    IfOk-weaker c.push.result _ _
    (λ m p. three_adds _ _ _ _ _ _ _ m _ _ _ _ _ _ _ c.requires.stands c.requires.first c.requires.second c.requires.third c.in_ok-first.ensures.grows c.in_ok-first.ensures.is c.in_ok-second.ensures.grows c.in_ok-second.ensures.is c.in_ok-third.ensures.grows c.in_ok-third.ensures.is p)
    c.push.ensures

pub returns-clause-is : goal.returns-clause-is
returns-clause-is c =
    IfOk-weaker c.push.result _ _
    (λ m p. three_is _ _ _ _ _ m _ _ _ _ _ _ _ (grown _ _ _ c.in_ok-second.ensures.grows.grown) (grown _ _ _ c.in_ok-third.ensures.grows.grown) c.in_ok-first.ensures.is c.in_ok-second.ensures.is c.in_ok-third.ensures.is p)
    c.push.ensures

pub operand-requires-2-clause-ready : goal.operand-requires-2-clause-ready
operand-requires-2-clause-ready c = (ready_grows _ _ _ _ _ (grown _ _ _ c.in_ok-first.ensures.grows.grown) c.requires.second).ready

pub operand-requires-3-clause-ready : goal.operand-requires-3-clause-ready
operand-requires-3-clause-ready c =
    (ready_grows _ _ _ _ _ (grown _ _ _ c.in_ok-second.ensures.grows.grown) (ready_grows _ _ _ _ _ (grown _ _ _ c.in_ok-first.ensures.grows.grown) c.requires.third)).ready
