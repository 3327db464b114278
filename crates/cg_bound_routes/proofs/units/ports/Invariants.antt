use Rattle.cg_bound_routes.specs.Question.{ArePorts}
use Rattle.cg_bound_routes.proofs.units.ports.Given as goal

abbrev pub invariant-loop-place : goal.invariant-loop-place
invariant-loop-place l = ArePorts l.arch l.op l.arg l.place l.ports.items
