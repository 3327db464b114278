use Rattle.cg_effects.specs.Outcome.{file_of}
use Rattle.cg_cause.proofs.Allowed.{stopped}
use Rattle.cg_inputs.specs.Readings.{ReadsArray}
use Rattle.cg_inputs.proofs.Answered.{refused_answer}
use Rattle.cg_inputs.proofs.Both.{first_refused, next_answer}
use Rattle.cg_command_run.specs.Netlist.{IsNetlistRun, ReadsNetlistRun, ReadsOn, RunsGates}
use Rattle.cg_command_run.proofs.running_gates.run_netlist.Goals as goal

pub returns-in_err-array : goal.returns-in_err-array
returns-in_err-array c =
    let call = c.args.call.now in
    let arch = file_of call.arch.now in
    let file = file_of call.bits.now in
    let input = file_of call.image.now in
    let netlist = file_of c.args.netlist.now in
    let s = c.in_err-array.field-0.0 in
    stopped (IsNetlistRun call.turns arch file input netlist call.out.now) s _ c.from_residual.ensures.1
    (refused_answer (ReadsNetlistRun arch file input netlist) (RunsGates call.turns input.name call.out.now) s
    (first_refused (ReadsArray arch file) (λ a. ReadsOn input netlist a.0) s c.in_err-array.ensures.refused))

pub returns : goal.returns
returns c =
    let call = c.args.call.now in
    let input = file_of call.image.now in
    let a = c.in_ok-array.array in
    next_answer (ReadsArray (file_of call.arch.now) (file_of call.bits.now)) (λ a. ReadsOn input (file_of c.args.netlist.now) a.0) (RunsGates call.turns input.name call.out.now) (a.arch, a.config)
    c.in_ok-array.ensures.given c.run_configured.result c.run_configured.ensures
