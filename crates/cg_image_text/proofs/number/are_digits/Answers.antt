use Rattle.std.proofs.Common.{◌<◌, get_or, arith}
use Rattle.std.proofs.lemmas.Bool.{lt-ltb}
use Rattle.std.specs.Char.{digit_value, is_digit}
use Rattle.cg_image_text.proofs.Numerals.{all_more}
use Rattle.cg_image_text.proofs.number.are_digits.Goals as goal

pub loop-byte-preserved : goal.loop-byte-preserved
loop-byte-preserved c =
    let value = c.digit.ensures.value in
    let low : digit_value (get_or c.args.text.now c.loop-byte.byte-index 0) < c.args.base = omega arith in
    all_more (λ x. is_digit x c.args.base) c.args.text.now _ _ c.loop-byte-test.true (lt-ltb _ _ low) c.loop-byte.invariant
