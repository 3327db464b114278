use Rattle.std.proofs.Common.{ap, sym, subst, ◌∙◌, ◌+◌, ◌*◌, ◌<◌, ◌^◌}
use Rattle.cg_loop_reader.proofs.Digits.{number_more, number_small}
use Rattle.cg_loop_reader.proofs.words.value_of.Goals as goal

pub loop-digit-preserved : goal.loop-digit-preserved
loop-digit-preserved c = record {
  is = ap (λ x. 10 * c.loop-digit.number + x) c.from.ensures ∙ number_more c.args.text.now c.loop-digit.digit-index c.loop-digit.number c.loop-digit-test.true c.loop-digit.invariant.is;
  small = subst (λ z. 10 * c.loop-digit.number + z < 10 ^ (c.loop-digit.digit-index + 1)) (sym c.from.ensures) (number_small c.args.text.now c.loop-digit.digit-index c.loop-digit.number c.requires.digits c.loop-digit.invariant.small);
}
