use Rattle.cg_bound_routes.proofs.Shared.{AreAlikeTo}
use Rattle.cg_bound_routes.proofs.alike.are_alike.Given as goal

abbrev pub invariant-loop-place : goal.invariant-loop-place
invariant-loop-place l = AreAlikeTo l.arch l.a l.b l.place
