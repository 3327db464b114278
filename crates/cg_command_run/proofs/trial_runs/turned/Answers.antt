use Rattle.std.proofs.Common.{◌<◌, Err, ap, arith}
use Rattle.cg_command_run.proofs.trial_runs.turned.Goals as goal

pub want_of_turns-requires : goal.want_of_turns-requires
want_of_turns-requires c = λ t is.
    let many : 1000000 < 1000 = ((c.in-Err.ensures.many t).0 (ap Err is)).1 in
    absurd (omega arith)
