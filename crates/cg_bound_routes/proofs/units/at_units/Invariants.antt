use Rattle.cg_bound_routes.specs.Search.{IsFound}
use Rattle.cg_bound_routes.specs.Question.{HasAskedWay}
use Rattle.cg_bound_routes.proofs.units.at_units.Given as goal

abbrev pub invariant-loop-place : goal.invariant-loop-place
invariant-loop-place l = IsFound l.arch (HasAskedWay l.arch l.question l.place) l.best
