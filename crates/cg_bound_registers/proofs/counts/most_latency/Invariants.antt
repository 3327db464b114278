use Rattle.std.proofs.Common.{◌≡◌, ◌≤◌, drop}
use Rattle.std.specs.Prelude.{max}
use Rattle.cg_bound_registers.specs.Pressure.{most_latency}
use Rattle.cg_bound_registers.proofs.counts.most_latency.Given as goal

abbrev pub invariant-loop-unit : goal.invariant-loop-unit
invariant-loop-unit l = (max l.most (most_latency l.op (drop l.unit-index l.arch.units)) ≡ most_latency l.op l.arch.units) × (1 ≤ l.most)
