use Rattle.std.proofs.Common.{◌∙◌, ap, sym, length, Ok}
use Rattle.std.proofs.lemmas.Bool.{ltb-false, or_parts}
use Rattle.cg_kernel.specs.Answer.{judged, kernel_of, unless}
use Rattle.cg_kernel.proofs.Clean.{clean}
use Rattle.cg_kernel.proofs.Valid.{valid}
use Rattle.cg_kernel.proofs.read.judged_by.Goals as goal

pub returns-in-Some-clause-answer : goal.returns-in-Some-clause-answer
unfolding judged
returns-in-Some-clause-answer c = λ _. ap (λ o. unless o (kernel_of c.args.written.now)) c.in-Some.ensures

pub kernel_of-requires-clause-few : goal.kernel_of-requires-clause-few
kernel_of-requires-clause-few c = ltb-false 1024 (length c.args.written.now.nodes) (or_parts _ _ (clean c.args.written.now (sym c.in_default.ensures)).too_large.file).0

pub kernel_of-requires-clause-valid : goal.kernel_of-requires-clause-valid
kernel_of-requires-clause-valid c = valid c.args.written.now (clean c.args.written.now (sym c.in_default.ensures)) c.requires.words

pub returns-clause-answer : goal.returns-clause-answer
unfolding judged
returns-clause-answer c = ap Ok c.in_ok-kernel_of.ensures ∙ ap (λ o. unless o (kernel_of c.args.written.now)) c.in_default.ensures
