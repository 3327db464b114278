use Rattle.std.proofs.Common.{◌≡◌}
use Rattle.std.proofs.lemmas.Result.{IfOk-weaker}
use Rattle.cg_c_kernel.specs.Made.{Word, Carried}
use Rattle.cg_c_kernel.proofs.Making.{constant_adds}
use Rattle.cg_c_kernel.proofs.carrying.Carrying.edge_to.Goals as goal

pub returns-in_ok-from-in-Const-clause-adds : goal.returns-in_ok-from-in-Const-clause-adds
returns-in_ok-from-in-Const-clause-adds c =
    IfOk-weaker c.over_one.result _ _
    (λ e h. constant_adds _ _ _ _ (Word c.in-Const.last) c.requires.stands c.in_ok-from-in-Const.ensures.0 (λ n (i : Word c.in-Const.last ≡ Carried n). absurd (cc))) c.over_one.ensures.from
