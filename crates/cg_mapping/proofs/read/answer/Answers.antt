use Rattle.std.proofs.Common.{Option, ap, sym, subst, Err}
use Rattle.serde_json.specs.Data.{Data}
use Rattle.cg_model.specs.Answers.{Gives}
use Rattle.cg_mapping.specs.Answer.{answer_of, answer_in}
use Rattle.cg_mapping.specs.declared.fault.MappingFault.TheVariants.{Memory}
use Rattle.cg_mapping.proofs.read.answer.Goals as goal

pub returns-in-Ok : goal.returns-in-Ok
unfolding answer_of
returns-in-Ok c =
    let P : Option Data → Type 0 = λ o. Gives Memory c.mapping_in.result (answer_in c.args.arch.now c.args.kernel.now o) in
    subst P (sym c.in-Ok.ensures.ok) c.mapping_in.ensures

pub returns-in-Err-NotJson : goal.returns-in-Err-NotJson
unfolding answer_of
returns-in-Err-NotJson c = λ _. ap (answer_in c.args.arch.now c.args.kernel.now) (sym (c.in-Err-NotJson.ensures.not_json (ap Err c.in-Err-NotJson.field-0-is)))
