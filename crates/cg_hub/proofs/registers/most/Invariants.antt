use Rattle.std.proofs.Common.{◌≡◌, drop}
use Rattle.std.specs.Prelude.{max}
use Rattle.cg_hub.specs.Hub as spec
use Rattle.cg_hub.proofs.registers.most.Given as goal

abbrev pub invariant-loop-consumer : goal.invariant-loop-consumer
invariant-loop-consumer l = max l.most (spec.most l.node (drop l.consumer-index l.nodes)) ≡ spec.most l.node l.nodes
