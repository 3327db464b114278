use Rattle.std.proofs.lemmas.Result.{IfOk-weaker}
use Rattle.cg_c_values.proofs.Known.{keeps}
use Rattle.cg_c_forms.proofs.Computed.{turn_means, two_means}
use Rattle.cg_c_forms.proofs.Later.{means_later}
use Rattle.cg_c_forms.proofs.digits.scaled.Goals as goal

pub returns-clause-means : goal.returns-clause-means
returns-clause-means c =
    let turn = turn_means _ c.in_ok-turn.turn c.in_ok-turn.ensures.within c.in_ok-turn.ensures.added in
    let turn_then = means_later (keeps c.two.ensures.kept) (means_later (keeps c.constant.ensures.kept) turn) in
    let factor = means_later (keeps c.two.ensures.kept) c.in_ok-factor.ensures.means in
    let product = two_means _ turn_then factor c.in_ok-product.ensures.means in
    let product_then = means_later (keeps c.two-2.ensures.kept) (means_later (keeps c.constant-2.ensures.kept) product) in
    let shift = means_later (keeps c.two-2.ensures.kept) c.in_ok-shift.ensures.means in
    IfOk-weaker c.two-2.result _ _ (λ v m. two_means _ product_then shift m) c.two-2.ensures.means
