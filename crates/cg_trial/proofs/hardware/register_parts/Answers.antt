use Rattle.cg_trial.specs.Trial as spec
use Rattle.cg_trial.proofs.Drawing.{one_made}
use Rattle.cg_trial.proofs.hardware.register_parts.Goals as goal

pub loop-number-preserved : goal.loop-number-preserved
loop-number-preserved c =
    one_made (spec.register_part c.args.count) c.loop-number.list.items c.push.new.self.items c.in_ok-register_part.field-0 c.loop-number.number c.in_ok-push.ensures.items c.loop-number.invariant
    c.in_ok-register_part.ensures
