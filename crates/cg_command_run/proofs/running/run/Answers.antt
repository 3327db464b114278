use Rattle.std.proofs.Common.{◌<◌, Err, ap, arith}
use Rattle.cg_command_run.proofs.running.run.Goals as goal

pub want_of-requires : goal.want_of-requires
want_of-requires c = λ t is.
    let many : 1000000 < c.args.turns = ((c.in-Err.ensures.many t).0 (ap Err is)).1 in
    absurd (omega arith)
