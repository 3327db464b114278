use Rattle.cg_effects.specs.Outcome.{file_of}
use Rattle.cg_cause.proofs.Allowed.{stopped}
use Rattle.cg_loop_syntax.specs.Body.{body_of}
use Rattle.cg_inputs.proofs.Answered.{given_answer, refused_answer}
use Rattle.cg_command_files.specs.Loop.{IsLoopOf, IsTranslation, ReadsLoop}
use Rattle.cg_command_files.proofs.Looped.{loop_told}
use Rattle.cg_command_files.proofs.looping.loop_answer.Goals as goal

pub returns-in_err-body : goal.returns-in_err-body
returns-in_err-body c =
    let file = file_of c.args.file.now in
    let s = c.in_err-body.field-0.0 in
    stopped (IsLoopOf file c.args.out.now) s _ c.from_residual.ensures.1 (refused_answer (ReadsLoop file) (IsTranslation file.name c.args.out.now) s (loop_told file s c.in_err-body.ensures.refused))

pub returns : goal.returns
returns c =
    let file = file_of c.args.file.now in
    given_answer (ReadsLoop file) (IsTranslation file.name c.args.out.now) (body_of c.in_ok-body.body) c.translated.result c.in_ok-body.ensures.spelled c.translated.ensures
