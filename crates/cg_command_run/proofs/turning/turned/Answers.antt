use Rattle.std.proofs.Common.{◌∙◌}
use Rattle.cg_turns.specs.Done.{left_of}
use Rattle.cg_command_run.proofs.Turned.{turned_by}
use Rattle.cg_command_run.proofs.turning.turned.Goals as goal

pub returns : goal.returns
returns c =
    c.new.ensures.reports
    ∙ turned_by c.args.kernel.now c.args.turns c.in_ok-blank.blank (left_of c.in_ok-done.done) c.streams.result.now c.in_ok-report.report.items c.in_ok-blank.ensures c.in_ok-done.ensures.done c.streams.ensures.streams c.in_ok-report.ensures
