use Rattle.std.proofs.Common.{rules}
use Rattle.cg_command_run.proofs.Reports.{line_more}
use Rattle.cg_command_run.proofs.streams.push_line.Goals as goal

pub loop-word-preserved : goal.loop-word-preserved
loop-word-preserved c = line_more c.args.report.now.items c.args.port c.args.words.now c.loop-word.word-index c.loop-word.report.items c.extend_from_slice-in-loop-word.new.self.items c.as_bytes-in-loop-word.result.now c.loop-word.invariant (search rules) c.in_ok-extend_from_slice-2.ensures.items c.loop-word-test.true
