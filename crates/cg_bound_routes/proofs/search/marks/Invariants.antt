use Rattle.cg_bound_routes.specs.Search.{AreMarks}
use Rattle.cg_bound_routes.proofs.search.marks.Given as goal

abbrev pub invariant-loop-place : goal.invariant-loop-place
invariant-loop-place l = AreMarks l.list l.place l.count l.marks.items
