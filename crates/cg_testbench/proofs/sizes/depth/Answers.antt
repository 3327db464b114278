use Rattle.std.proofs.Common.{◌≤◌, lit≤, arith}
use Rattle.cg_model.specs.Limits.{most_stream}
use Rattle.cg_testbench.specs.Sizes.{taken}
use Rattle.cg_testbench.proofs.Steps.{none_great, greater_yet, no_greater}
use Rattle.cg_testbench.proofs.sizes.depth.Goals as goal

pub loop-port-init : goal.loop-port-init
loop-port-init c = (none_great (taken c.args.turns c.args.image.now.streams), lit≤ tt)

pub loop-port-preserved : goal.loop-port-preserved
loop-port-preserved c =
    let most : c.taken.result ≤ most_stream = (let few = c.taken.ensures.few in let all = c.requires in omega arith) in (
      greater_yet (taken c.args.turns c.args.image.now.streams) _ _ _ _ c.loop-port.invariant.0 c.taken.ensures.value c.max-most.ensures,
      no_greater most_stream _ _ _ c.loop-port.invariant.1 most c.max-most.ensures,
    )
