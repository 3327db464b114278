use Rattle.std.proofs.lemmas.Result.{IfOk-weaker}
use Rattle.cg_c_forms.proofs.Adding.{adds_keep}
use Rattle.cg_c_forms.proofs.Computed.{added}
use Rattle.cg_c_forms.proofs.Loading.{found_guards, load_new, none_guards, tested_guards}
use Rattle.cg_c_forms.proofs.Renewing.{constant_new, digit_new, leaf_new, quotient_new, select_new, turn_new, two_new}
use Rattle.cg_c_forms.proofs.anew.remade.Goals.{in-Some, in_default-2, in_default}
use Rattle.cg_c_forms.proofs.anew.remade.Goals as goal

pub returns-in-Const-clause-new : goal.returns-in-Const-clause-new
returns-in-Const-clause-new c = rw c.in-Const.is (IfOk-weaker c.constant.result _ _ (λ v m. constant_new _ _ _ _ _ v m) c.constant.ensures.means)

pub returns-in-Quotient-clause-new : goal.returns-in-Quotient-clause-new
returns-in-Quotient-clause-new c = rw c.in-Quotient.is (IfOk-weaker c.any_quotient.result _ _ (λ v m. quotient_new _ _ _ _ _ v m) c.any_quotient.ensures.means)

pub returns-in-Digit-clause-new : goal.returns-in-Digit-clause-new
returns-in-Digit-clause-new c = rw c.in-Digit.is (IfOk-weaker c.digit-in-Digit.result _ _ (λ v m. digit_new _ _ _ _ _ _ v m) c.digit-in-Digit.ensures.means)

pub returns-after-guard-clause-new : goal.returns-after-guard-clause-new
returns-after-guard-clause-new c =
    rw c.in-Loaded.is
    (elim c.match-guard.branch [
      | in-Some w ↦
          IfOk-weaker c.load.result _ _
          (λ v m. load_new _ _ _ _ _ _ _ _ c.match-guard.guard v
          (tested_guards _ _ _ _ _ _ _ _ _ _ _ _ (adds_keep c.load.ensures.kept) w.tested.ensures.tests w.in-Some.is w.guard-is) m)
          c.load.ensures.load
      | in_default-2 w ↦
          IfOk-weaker c.load.result _ _
          (λ v m. load_new _ _ _ _ _ _ _ _ c.match-guard.guard v
          (found_guards _ _ _ _ _ _ _ _ _ w.find.result _ w.if-is_none.ensures w.find.ensures w.guard-is) m)
          c.load.ensures.load
      | in_default w ↦
          IfOk-weaker c.load.result _ _
          (λ v m. load_new _ _ _ _ _ _ _ _ c.match-guard.guard v (none_guards _ _ _ _ _ _ _ _ _ w.in_default.is w.guard-is) m)
          c.load.ensures.load
    ])

pub returns-in-Two-clause-new : goal.returns-in-Two-clause-new
returns-in-Two-clause-new c = rw c.in-Two.is (IfOk-weaker c.two.result _ _ (λ v m. two_new _ _ _ _ _ _ _ v m) c.two.ensures.means)

pub returns-in-Select-clause-new : goal.returns-in-Select-clause-new
returns-in-Select-clause-new c = rw c.in-Select.is (IfOk-weaker c.select.result _ _ (λ v m. select_new _ _ _ _ _ _ _ v m) c.select.ensures.means)

pub returns-in-Turn-clause-new : goal.returns-in-Turn-clause-new
returns-in-Turn-clause-new c = rw c.in-Turn.is (IfOk-weaker c.digit.result _ _ (λ v m. turn_new _ _ _ _ v m) c.digit.ensures.means)

pub returns-in-Carried-clause-new : goal.returns-in-Carried-clause-new
returns-in-Carried-clause-new c =
    added _ _ c.add.result (λ v l e. leaf_new _ _ _ _ _ v c.in-Carried.is l e) c.add.ensures.within c.add.ensures.added
