use Rattle.std.proofs.Common.{◌≡◌, map, take}
use Rattle.cg_sim.specs.Plan.{terminals_of}
use Rattle.cg_sim.proofs.plan.terminals_of.Given as goal

abbrev pub invariant-loop-unit : goal.invariant-loop-unit
invariant-loop-unit l = l.terminals.items ≡ map (terminals_of l.none) (take l.unit-index l.units)
