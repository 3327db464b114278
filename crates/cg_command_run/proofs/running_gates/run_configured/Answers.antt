use Rattle.std.proofs.Common.{◌≡◌, subst}
use Rattle.cg_model.specs.Work.{Image}
use Rattle.cg_effects.specs.Outcome.{Outcome, file_of}
use Rattle.cg_cause.specs.Allowed.{Allows}
use Rattle.cg_cause.proofs.Allowed.{stopped}
use Rattle.cg_netlist.specs.Netlist.{NetGraph}
use Rattle.cg_netlist_reader.specs.FaultText.{verilog_fault_text}
use Rattle.cg_netlist_reader.specs.Reading as netlists
use Rattle.cg_netlist_reader.specs.declared.fault.VerilogFault.TheVariants as verilog_fault
use Rattle.cg_gates.specs.Accepts.{IsGateAnswer}
use Rattle.cg_gates.specs.Gated.{Gated}
use Rattle.cg_gates.specs.Texts.{gate_fault_text}
use Rattle.cg_gates.specs.declared.fault.GateFault.TheVariants as gate_fault
use Rattle.cg_inputs.specs.Answered.{ReadThen}
use Rattle.cg_inputs.specs.Readings.{ReadsImage}
use Rattle.cg_inputs.proofs.Answered.{given_answer, refused_answer}
use Rattle.cg_inputs.proofs.Both.{first_refused, next_refused}
use Rattle.cg_inputs.proofs.Parsed.{told_other}
use Rattle.cg_inputs.proofs.Readings.{image_told}
use Rattle.cg_command_run.specs.Netlist.{ReadsGates, ReadsMeaning, ReadsNetlist, ReadsOn, RunsGates, gates_ran}
use Rattle.cg_command_run.specs.Run.{run_by_size}
use Rattle.cg_command_run.proofs.running_gates.run_configured.Goals as goal

pub returns-in_err-image : goal.returns-in_err-image
returns-in_err-image c =
    let call = c.args.call.now in
    let input = file_of call.image.now in
    let netlist = file_of c.args.netlist.now in
    let A = c.args.arch.now in
    let Does : Image × (NetGraph × Unit {0}) → Outcome → Type 0 = λ x. RunsGates call.turns input.name call.out.now ((A, c.args.config.now), x) in
    let s = c.in_err-image.field-0.0 in
    stopped (ReadThen (ReadsOn input netlist A) Does) s _ c.from_residual.ensures.1
    (refused_answer (ReadsOn input netlist A) Does s (first_refused (ReadsImage input) (λ image. ReadsGates A netlist) s (image_told input s c.in_err-image.ensures.refused)))

pub returns-in_err-graph : goal.returns-in_err-graph
returns-in_err-graph c =
    let call = c.args.call.now in
    let input = file_of call.image.now in
    let netlist = file_of c.args.netlist.now in
    let A = c.args.arch.now in
    let Does : Image × (NetGraph × Unit {0}) → Outcome → Type 0 = λ x. RunsGates call.turns input.name call.out.now ((A, c.args.config.now), x) in
    let s = c.in_err-graph.field-0.0 in
    stopped (ReadThen (ReadsOn input netlist A) Does) s _ c.from_residual-in_err-graph.ensures.1
    (refused_answer (ReadsOn input netlist A) Does s
    (next_refused (ReadsImage input) (λ image. ReadsGates A netlist) c.in_ok-image.image s c.in_ok-image.ensures.given
    (first_refused (ReadsNetlist netlist) (ReadsMeaning A netlist.name) s (told_other (netlists.IsAnswer netlist.bytes) verilog_fault_text netlist.name verilog_fault.Memory s c.in_err-graph.ensures.refused))))

pub returns-in_err-gates : goal.returns-in_err-gates
returns-in_err-gates c =
    let call = c.args.call.now in
    let input = file_of call.image.now in
    let netlist = file_of c.args.netlist.now in
    let A = c.args.arch.now in
    let N = c.in_ok-graph.graph in
    let Does : Image × (NetGraph × Unit {0}) → Outcome → Type 0 = λ x. RunsGates call.turns input.name call.out.now ((A, c.args.config.now), x) in
    let s = c.in_err-gates.field-0.0 in
    stopped (ReadThen (ReadsOn input netlist A) Does) s _ c.from_residual-in_err-gates.ensures.1
    (refused_answer (ReadsOn input netlist A) Does s
    (next_refused (ReadsImage input) (λ image. ReadsGates A netlist) c.in_ok-image.image s c.in_ok-image.ensures.given
    (next_refused (ReadsNetlist netlist) (ReadsMeaning A netlist.name) N s c.in_ok-graph.ensures.given
    (told_other (IsGateAnswer A N) gate_fault_text netlist.name gate_fault.Memory s c.in_err-gates.ensures.refused))))

pub returns : goal.returns
returns c =
    let call = c.args.call.now in
    let input = file_of call.image.now in
    let netlist = file_of c.args.netlist.now in
    let A = c.args.arch.now in
    let C = c.args.config.now in
    let image = c.in_ok-image.image in
    let N = c.in_ok-graph.graph in
    let Does : Image × (NetGraph × Unit {0}) → Outcome → Type 0 = λ x. RunsGates call.turns input.name call.out.now ((A, C), x) in
    given_answer (ReadsOn input netlist A) Does (image, (N, tt)) c.run_gates.result (c.in_ok-image.ensures.given, (c.in_ok-graph.ensures.given, c.in_ok-gates.ensures.accepted))
    (subst (λ (g : Gated). Allows (λ o. o ≡ run_by_size g.arch input.name image (gates_ran call.turns g.arch g.netlist C image call.out.now)) c.run_gates.result) c.in_ok-gates.ensures.found c.run_gates.ensures)
