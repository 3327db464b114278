use Rattle.std.proofs.lemmas.Result.{IfOk-weaker}
use Rattle.cg_c_values.proofs.Known.{keeps}
use Rattle.cg_c_forms.proofs.Computed.{turn_means, two_means}
use Rattle.cg_c_forms.proofs.Later.{means_later}
use Rattle.cg_c_forms.proofs.digits.shifted.Goals as goal

pub returns-clause-means : goal.returns-clause-means
returns-clause-means c =
    let turn = turn_means _ c.in_ok-turn.turn c.in_ok-turn.ensures.within c.in_ok-turn.ensures.added in
    let turn_then = means_later (keeps c.two.ensures.kept) (means_later (keeps c.constant.ensures.kept) turn) in
    let bits = means_later (keeps c.two.ensures.kept) c.in_ok-bits.ensures.means in
    IfOk-weaker c.two.result _ _ (λ v m. two_means _ turn_then bits m) c.two.ensures.means
