use Rattle.cg_effects.specs.Outcome.{file_of}
use Rattle.cg_cause.proofs.Allowed.{stopped}
use Rattle.cg_check.specs.Legal.{Mapped}
use Rattle.cg_inputs.specs.Sources.{AreMapped}
use Rattle.cg_inputs.proofs.Answered.{refused_answer, given_answer}
use Rattle.cg_command_judge.specs.Emit.{IsEmit, IsEmission}
use Rattle.cg_command_judge.proofs.emitting.emit.Goals as goal

pub returns-in_err-sources : goal.returns-in_err-sources
returns-in_err-sources c =
    let arch = file_of c.args.arch.now in
    let kernel = file_of c.args.kernel.now in
    let mapping = file_of c.args.mapping.now in
    stopped (IsEmit arch kernel mapping c.args.out.now) c.in_err-sources.field-0.0 _ c.from_residual.ensures.1
    (refused_answer (AreMapped arch kernel mapping) (IsEmission c.args.out.now) _ c.in_err-sources.ensures.refused)

pub returns : goal.returns
returns c =
    let s = c.in_ok-sources.sources in
    let m : Mapped = record { arch = s.arch; kernel = s.kernel; mapping = s.mapping } in
    given_answer (AreMapped (file_of c.args.arch.now) (file_of c.args.kernel.now) (file_of c.args.mapping.now)) (IsEmission c.args.out.now) m c.emitted.result
    c.in_ok-sources.ensures.given c.emitted.ensures
