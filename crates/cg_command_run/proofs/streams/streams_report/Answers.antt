use Rattle.std.proofs.Common.{◌++◌, ◌∙◌, ap, sym}
use Rattle.cg_command_run.specs.Turns.{port_report}
use Rattle.cg_command_run.proofs.Reports.{flat_range_more}
use Rattle.cg_command_run.proofs.streams.streams_report.Goals as goal

pub loop-port-preserved : goal.loop-port-preserved
loop-port-preserved c =
    let K = c.args.kernel.now in
    let streams = c.args.streams.now in
    c.in_ok-push_port.ensures ∙ ap (λ z. z ++ port_report K streams c.loop-port.port) c.loop-port.invariant ∙ sym (flat_range_more (port_report K streams) c.loop-port.port)
