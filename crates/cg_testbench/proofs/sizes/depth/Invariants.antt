use Rattle.std.proofs.Common.{◌≡◌, ◌≤◌}
use Rattle.cg_model.specs.Limits.{most_stream}
use Rattle.cg_list_laws.specs.Below.{greatest_below}
use Rattle.cg_testbench.specs.Sizes.{taken}
use Rattle.cg_testbench.proofs.sizes.depth.Given as goal

abbrev pub invariant-loop-port : goal.invariant-loop-port
invariant-loop-port l = (l.most ≡ greatest_below (taken l.turns l.image.streams) l.port) × (l.most ≤ most_stream)
