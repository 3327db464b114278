use Rattle.std.proofs.Common.{inl, inr, arith}
use Rattle.std.proofs.lemmas.Result.{IfOk-weaker}
use Rattle.cg_c_forms.proofs.Computed.{means_in}
use Rattle.cg_c_forms.proofs.Remainders.{no_quotient}
use Rattle.cg_c_forms.proofs.digits.any_quotient.Goals.{then-divisor-eq0-via-then-divisor-eq0, then-divisor-eq0-via-else-divisor-eq0+then-divisor-turns}
use Rattle.cg_c_forms.proofs.digits.any_quotient.Goals as goal

pub returns-then-divisor-eq0-clause-means : goal.returns-then-divisor-eq0-clause-means
returns-then-divisor-eq0-clause-means c =
    elim c.then-divisor-eq0.branch [
      | then-divisor-eq0-via-then-divisor-eq0 w ↦
          IfOk-weaker c.constant.result _ _
          (λ v m. means_in (λ t l. no_quotient c.args.divisor c.args.turns t (inl w.if-divisor-eq0.true) l) m) c.constant.ensures.means
      | then-divisor-eq0-via-else-divisor-eq0+then-divisor-turns w ↦
          IfOk-weaker c.constant.result _ _
          (λ v m. means_in (λ t l. no_quotient c.args.divisor c.args.turns t (inr (omega arith)) l) m) c.constant.ensures.means
    ]
