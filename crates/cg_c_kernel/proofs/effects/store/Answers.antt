use Rattle.std.proofs.lemmas.Result.{IfOk-weaker}
use Rattle.cg_c_kernel.proofs.Making.{adds_then, adds_twice}
use Rattle.cg_c_kernel.proofs.effects.store.Goals as goal

pub returns-in_ok-emit-in-None-2-clause-adds : goal.returns-in_ok-emit-in-None-2-clause-adds
returns-in_ok-emit-in-None-2-clause-adds c =
    IfOk-weaker c.two.result _ _ (λ m p. adds_then _ _ _ _ _ m (adds_twice _ _ _ _ _ c.in_ok-emit-in-None.ensures.adds c.in_ok-emit-in-None-2.ensures.adds) p) c.two.ensures.adds

pub returns-in_ok-emit-in-Some-3-clause-adds : goal.returns-in_ok-emit-in-Some-3-clause-adds
returns-in_ok-emit-in-Some-3-clause-adds c =
    IfOk-weaker c.three.result _ _
    (λ m p. adds_then _ _ _ _ _ m (adds_twice _ _ _ _ _ (adds_twice _ _ _ _ _ c.in_ok-emit-in-Some.ensures.adds c.in_ok-emit-in-Some-2.ensures.adds) c.in_ok-emit-in-Some-3.ensures.adds) p) c.three.ensures.adds
