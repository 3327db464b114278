use Rattle.cg_effects.specs.Outcome.{file_of}
use Rattle.cg_cause.proofs.Allowed.{stopped}
use Rattle.cg_inputs.specs.Readings.{ReadsArch}
use Rattle.cg_inputs.proofs.Answered.{given_answer, refused_answer}
use Rattle.cg_inputs.proofs.Readings.{arch_told}
use Rattle.cg_command_files.specs.Verilog.{IsNetlisting, IsVerilog}
use Rattle.cg_command_files.proofs.netlisting.verilog.Goals as goal

pub returns-in_err-arch : goal.returns-in_err-arch
returns-in_err-arch c =
    let file = file_of c.args.file.now in
    let s = c.in_err-arch.field-0.0 in
    stopped (IsVerilog file c.args.out.now) s _ c.from_residual.ensures.1 (refused_answer (ReadsArch file) (IsNetlisting c.args.out.now) s (arch_told file s c.in_err-arch.ensures.refused))

pub returns : goal.returns
returns c = given_answer (ReadsArch (file_of c.args.file.now)) (IsNetlisting c.args.out.now) c.in_ok-arch.arch c.netlisted.result c.in_ok-arch.ensures.given c.netlisted.ensures
