use Rattle.std.proofs.Common.{sym, subst}
use Rattle.std.proofs.lemmas.Result.{IfOk-weaker}
use Rattle.cg_c_syntax.specs.declared.expression.Binary.{Binary}
use Rattle.cg_c_check.specs.Rules.{two_words}
use Rattle.cg_c_values.specs.Listed.{listed}
use Rattle.cg_c_values.specs.Values.{Means}
use Rattle.cg_c_turn.proofs.Operating.{means_greater, means_at_most, means_at_least, means_direct, is_directly}
use Rattle.cg_c_turn.proofs.expressions.operated.Goals as goal

pub returns-in-Greater-clause-means : goal.returns-in-Greater-clause-means
returns-in-Greater-clause-means c = IfOk-weaker c.two.result _ _ (λ r h.
    subst (λ (z : Binary). Means (listed c.two.new.self) r (λ x E. two_words z c.args.reading (E c.args.first) (E c.args.second))) (sym c.in-Greater.is)
    (means_greater (listed c.two.new.self) c.args.reading c.args.first c.args.second r c.less_op.result c.less_op.ensures h)) c.two.ensures.means

pub returns-in_ok-less-in-AtMost-clause-means : goal.returns-in_ok-less-in-AtMost-clause-means
returns-in_ok-less-in-AtMost-clause-means c = IfOk-weaker c.negation.result _ _ (λ r h.
    subst (λ (z : Binary). Means (listed c.negation.new.self) r (λ x E. two_words z c.args.reading (E c.args.first) (E c.args.second))) (sym c.in-AtMost.is)
    (means_at_most (listed c.two-in-AtMost.new.self) (listed c.negation.new.self) c.args.reading c.args.first c.args.second c.in_ok-less-in-AtMost.less r c.less_op-in-AtMost.result c.less_op-in-AtMost.ensures c.negation.ensures.kept c.in_ok-less-in-AtMost.ensures.means h)) c.negation.ensures.means

pub returns-in_ok-less-in-AtLeast-clause-means : goal.returns-in_ok-less-in-AtLeast-clause-means
returns-in_ok-less-in-AtLeast-clause-means c = IfOk-weaker c.negation-in-AtLeast.result _ _ (λ r h.
    subst (λ (z : Binary). Means (listed c.negation-in-AtLeast.new.self) r (λ x E. two_words z c.args.reading (E c.args.first) (E c.args.second))) (sym c.in-AtLeast.is)
    (means_at_least (listed c.two-in-AtLeast.new.self) (listed c.negation-in-AtLeast.new.self) c.args.reading c.args.first c.args.second c.in_ok-less-in-AtLeast.less r c.less_op-in-AtLeast.result c.less_op-in-AtLeast.ensures c.negation-in-AtLeast.ensures.kept c.in_ok-less-in-AtLeast.ensures.means h)) c.negation-in-AtLeast.ensures.means

pub returns-in_default : goal.returns-in_default
returns-in_default c = record {
  kept = c.two-in_default.ensures.kept;
  means = IfOk-weaker c.two-in_default.result _ _ (λ r h.
      means_direct (listed c.two-in_default.new.self) c.args.op c.args.reading c.args.first c.args.second r c.direct_op.result
      (is_directly c.args.op c.requires.always c.in_default.not-Greater c.in_default.not-AtMost c.in_default.not-AtLeast) c.direct_op.ensures h) c.two-in_default.ensures.means;
}
