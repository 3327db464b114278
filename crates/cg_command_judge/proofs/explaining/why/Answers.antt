use Rattle.cg_effects.specs.Outcome.{file_of}
use Rattle.cg_cause.proofs.Allowed.{stopped}
use Rattle.cg_inputs.specs.Sources.{ArePaired}
use Rattle.cg_inputs.proofs.Answered.{refused_answer, given_answer}
use Rattle.cg_command_judge.specs.Why.{IsWhyOf, IsExplained}
use Rattle.cg_command_judge.proofs.explaining.why.Goals as goal

pub returns-in_err-instance : goal.returns-in_err-instance
returns-in_err-instance c =
    let arch = file_of c.args.arch.now in
    let kernel = file_of c.args.kernel.now in
    stopped (IsWhyOf arch kernel) c.in_err-instance.field-0.0 _ c.from_residual.ensures.1
    (refused_answer (ArePaired arch kernel) IsExplained _ c.in_err-instance.ensures.refused)

pub returns : goal.returns
returns c =
    let i = c.in_ok-instance.instance in
    given_answer (ArePaired (file_of c.args.arch.now) (file_of c.args.kernel.now)) IsExplained (record { arch = i.arch; kernel = i.kernel }) c.explained.result
    c.in_ok-instance.ensures.given c.explained.ensures
