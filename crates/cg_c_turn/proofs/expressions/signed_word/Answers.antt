use Rattle.std.proofs.Common.{sym, subst}
use Rattle.std.proofs.lemmas.Result.{IfOk-weaker}
use Rattle.cg_word.specs.declared.op.Op.TheVariants as ops
use Rattle.cg_c_syntax.specs.declared.expression.Sign.{Sign}
use Rattle.cg_c_check.specs.Rules.{signed_word}
use Rattle.cg_c_values.specs.Listed.{listed}
use Rattle.cg_c_values.specs.Values.{Means}
use Rattle.cg_c_turn.proofs.Operating.{means_from, means_with}
use Rattle.cg_c_turn.proofs.expressions.signed_word.Goals as goal

pub returns-in_ok-zero-in-Minus-clause-means : goal.returns-in_ok-zero-in-Minus-clause-means
returns-in_ok-zero-in-Minus-clause-means c = IfOk-weaker c.two.result _ _ (λ r h.
    subst (λ (z : Sign). Means (listed c.two.new.self) r (λ x E. signed_word z (E c.args.v))) (sym c.in-Minus.is)
    (means_from (listed c.constant.new.self) (listed c.two.new.self) ops.Sub c.args.v 0 c.in_ok-zero-in-Minus.zero r c.two.ensures.kept c.in_ok-zero-in-Minus.ensures.means h)) c.two.ensures.means

pub returns-in_ok-ones-in-Complement-clause-means : goal.returns-in_ok-ones-in-Complement-clause-means
returns-in_ok-ones-in-Complement-clause-means c = IfOk-weaker c.two-in-Complement.result _ _ (λ r h.
    subst (λ (z : Sign). Means (listed c.two-in-Complement.new.self) r (λ x E. signed_word z (E c.args.v))) (sym c.in-Complement.is)
    (means_with (listed c.constant-in-Complement.new.self) (listed c.two-in-Complement.new.self) ops.Xor c.args.v 4294967295 c.in_ok-ones-in-Complement.ones r c.two-in-Complement.ensures.kept c.in_ok-ones-in-Complement.ensures.means h)) c.two-in-Complement.ensures.means
