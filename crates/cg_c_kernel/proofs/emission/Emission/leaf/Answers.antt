use Rattle.std.proofs.lemmas.Result.{IfOk-weaker}
use Rattle.cg_c_kernel.proofs.Recurring.{digit_gains, input_gains, turn_gains}
use Rattle.cg_c_kernel.proofs.emission.Emission.leaf.Goals as goal

pub returns-in-Input : goal.returns-in-Input
returns-in-Input c = rw c.in-Input.is (IfOk-weaker c.push.result _ _ (λ m p. input_gains _ _ _ _ m _ c.requires.stands p) c.push.ensures)

pub returns-in-Digit : goal.returns-in-Digit
returns-in-Digit c = rw c.in-Digit.is (IfOk-weaker c.rotation.result _ _ (λ m p. digit_gains _ _ _ _ m _ _ c.requires.stands p) c.rotation.ensures)

pub returns-in-Turn : goal.returns-in-Turn
returns-in-Turn c = rw c.in-Turn.is (IfOk-weaker c.push-in-Turn.result _ _ (λ m p. turn_gains _ _ _ _ m c.requires.stands p) c.push-in-Turn.ensures)
