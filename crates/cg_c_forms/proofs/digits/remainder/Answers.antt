use Rattle.std.proofs.Common.{refl, arith}
use Rattle.std.proofs.lemmas.Result.{IfOk-weaker}
use Rattle.cg_c_values.proofs.Known.{keeps}
use Rattle.cg_c_forms.proofs.Adding.{adds_keep}
use Rattle.cg_c_forms.proofs.Computed.{means_in, same_in, two_means_in}
use Rattle.cg_c_forms.proofs.Later.{means_in_later, means_later}
use Rattle.cg_c_forms.proofs.Remainders.{remainder_word}
use Rattle.cg_c_forms.proofs.digits.remainder.Goals as goal

pub returns-clause-means : goal.returns-clause-means
returns-clause-means c =
    let all =
    means_in_later (keeps c.two-2.ensures.kept) (means_in_later (keeps c.two.ensures.kept)
    (means_in_later (keeps c.constant.ensures.kept) (means_in_later (adds_keep c.quotient-2.ensures.kept) c.in_ok-all.ensures.means))) in
    let rounds = means_in_later (keeps c.two.ensures.kept) (means_in_later (keeps c.constant.ensures.kept) c.in_ok-rounds.ensures.means) in
    let radix = means_in (λ t b. refl) (means_later (keeps c.two.ensures.kept) c.in_ok-radix.ensures.means) in
    let before = means_in_later (keeps c.two-2.ensures.kept) (two_means_in _ rounds radix c.in_ok-before.ensures.means) in
    IfOk-weaker c.two-2.result _ _
    (λ v m. same_in (λ t b. remainder_word c.args.divisor c.args.radix t (omega arith)) (two_means_in _ all before m)) c.two-2.ensures.means
