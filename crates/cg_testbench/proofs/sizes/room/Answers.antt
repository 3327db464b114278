use Rattle.std.proofs.Common.{◌≤◌, lit≤, arith}
use Rattle.cg_model.specs.Limits.{most_stream}
use Rattle.cg_testbench.specs.Sizes.{sent}
use Rattle.cg_testbench.proofs.Steps.{none_great, greater_yet, no_greater}
use Rattle.cg_testbench.proofs.sizes.room.Goals as goal

pub loop-port-init : goal.loop-port-init
loop-port-init c = (none_great (sent c.args.end.now.image.streams), lit≤ tt)

pub loop-port-preserved : goal.loop-port-preserved
loop-port-preserved c =
    let most : c.sent.result ≤ most_stream = (let all = c.requires.streams c.loop-port.port in omega arith) in (
      greater_yet (sent c.args.end.now.image.streams) _ _ _ _ c.loop-port.invariant.0 c.sent.ensures c.max-most.ensures,
      no_greater most_stream _ _ _ c.loop-port.invariant.1 most c.max-most.ensures,
    )
