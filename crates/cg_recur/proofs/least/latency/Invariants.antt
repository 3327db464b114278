use Rattle.std.proofs.Common.{◌≡◌, take}
use Rattle.cg_recur.specs.Edges.{least_latency}
use Rattle.cg_recur.proofs.least.latency.Given as goal

abbrev pub invariant-loop-unit : goal.invariant-loop-unit
invariant-loop-unit l = l.least ≡ least_latency l.op (take l.unit-index l.arch.units)
