use Rattle.std.proofs.Common.{◌≡◌, ◌++◌}
use Rattle.cg_list_laws.specs.Below.{lists_below}
use Rattle.cg_command_files.specs.Image.{stream_line}
use Rattle.cg_command_files.proofs.imaging.push_streams.Given as goal

abbrev pub invariant-loop-port : goal.invariant-loop-port
invariant-loop-port l = l.report.items ≡ l.fn.report.items ++ lists_below (stream_line l.image) l.port
