use Rattle.std.proofs.Common.{Option, ap, sym, subst, Err}
use Rattle.serde_json.specs.Data.{Data}
use Rattle.cg_model.specs.Answers.{Gives}
use Rattle.cg_kernel.specs.Answer.{answer_of, answer_in}
use Rattle.cg_kernel.specs.declared.fault.KernelFault.TheVariants.{Memory}
use Rattle.cg_kernel.proofs.read.read_kernel.Goals as goal

pub returns-in-Ok-clause-answer : goal.returns-in-Ok-clause-answer
unfolding answer_of
returns-in-Ok-clause-answer c =
    let P : Option Data → Type 0 = λ o. Gives Memory c.kernel_in.result (answer_in o) in
    subst P (sym c.in-Ok.ensures.ok) c.kernel_in.ensures.answer

pub returns-in-Err-NotJson-clause-answer : goal.returns-in-Err-NotJson-clause-answer
unfolding answer_of
returns-in-Err-NotJson-clause-answer c = λ _. ap answer_in (sym (c.in-Err-NotJson.ensures.not_json (ap Err c.in-Err-NotJson.field-0-is)))
