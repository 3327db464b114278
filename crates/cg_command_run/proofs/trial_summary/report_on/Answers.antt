use Rattle.std.proofs.Common.{rules}
use Rattle.cg_command_run.proofs.Trials.{report_made}
use Rattle.cg_command_run.proofs.trial_summary.report_on.Goals as goal

pub returns : goal.returns
returns c =
    report_made c.args.seed c.args.mapping.now c.args.image.now _ _ _ _ c.in_ok-bits.bits.items c.in_ok-text.ensures c.in_ok-bits.ensures.bits (search rules) (search rules) (search rules)
