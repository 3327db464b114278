use Rattle.std.proofs.Common.{◌≡◌, flat_map}
use Rattle.std.specs.List.{range_with_len}
use Rattle.cg_command_run.specs.Turns.{port_report}
use Rattle.cg_command_run.proofs.streams.streams_report.Given as goal

abbrev pub invariant-loop-port : goal.invariant-loop-port
invariant-loop-port l = l.report.items ≡ flat_map (port_report l.kernel l.streams) (range_with_len 0 l.port)
