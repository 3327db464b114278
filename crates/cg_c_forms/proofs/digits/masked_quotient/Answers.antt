use Rattle.std.proofs.Common.{refl}
use Rattle.std.proofs.lemmas.Result.{IfOk-weaker}
use Rattle.cg_c_values.proofs.Known.{keeps}
use Rattle.cg_c_forms.proofs.Computed.{means_in, two_means_in}
use Rattle.cg_c_forms.proofs.Later.{means_in_later, means_later}
use Rattle.cg_c_forms.proofs.digits.masked_quotient.Goals as goal

pub returns-clause-means : goal.returns-clause-means
returns-clause-means c =
    let all = means_in_later (keeps c.two.ensures.kept) (means_in_later (keeps c.constant.ensures.kept) c.in_ok-all.ensures.means) in
    let mask = means_in (λ t b. refl) (means_later (keeps c.two.ensures.kept) c.in_ok-mask.ensures.means) in
    IfOk-weaker c.two.result _ _ (λ v m. two_means_in _ all mask m) c.two.ensures.means
