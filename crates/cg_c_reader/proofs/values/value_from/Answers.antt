use Rattle.std.proofs.Common.{ℕ, ◌+◌, ◌*◌, ◌^◌, min, ap, ◌∙◌, arith}
use Rattle.cg_c_reader.proofs.DigitByDigit.{value_more}
use Rattle.cg_c_reader.proofs.values.value_from.Goals as goal

pub loop-digit-preserved : goal.loop-digit-preserved
loop-digit-preserved c = record {
  is =
      c.min-value.ensures
      ∙ ap (λ (x : ℕ). min (c.args.base * c.loop-digit.value + x) (2 ^ 32)) c.digit_value.ensures.value
      ∙ value_more c.args.base (2 ^ 32) c.args.digits.now c.loop-digit.digit-index c.loop-digit.value c.requires.some c.loop-digit-test.true c.loop-digit.invariant.is;
  small = omega (arith, c.min-value.ensures);
}
