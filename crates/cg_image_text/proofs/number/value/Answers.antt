use Rattle.std.proofs.Common.{arith}
use Rattle.cg_image_text.proofs.Numerals.{value_more, value_large}
use Rattle.cg_image_text.proofs.number.value.Goals as goal

pub returns-then-value : goal.returns-then-value
returns-then-value c =
    value_large c.args.base c.args.text.now _ _ c.requires.low
    (value_more c.args.base c.args.text.now c.loop-byte.byte-index c.loop-byte.value c.digit.result c.loop-byte-test.true c.loop-byte.invariant.so_far c.digit.ensures.value)
    (omega arith)

pub loop-byte-preserved : goal.loop-byte-preserved
loop-byte-preserved c = record {
  so_far = value_more c.args.base c.args.text.now c.loop-byte.byte-index c.loop-byte.value c.digit.result c.loop-byte-test.true c.loop-byte.invariant.so_far c.digit.ensures.value;
  small = omega arith;
}
