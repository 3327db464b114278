use Rattle.std.proofs.Common.{◌∙◌, sym}
use Rattle.cg_command.proofs.Digits.{too_great}
use Rattle.cg_command.proofs.numbers.number_up_to.Goals as goal

pub returns-in_default-2-clause-value : goal.returns-in_default-2-clause-value
returns-in_default-2-clause-value c = sym (too_great c.args.word.now c.args.most c.parse.result c.in_default.field-0 (sym c.is_number.ensures ∙ c.if-not-is_number.false) c.ranges.most.fits c.parse.ensures.value.0 c.in_default.is)
