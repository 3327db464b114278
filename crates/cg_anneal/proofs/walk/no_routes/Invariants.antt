use Rattle.std.proofs.Common.{◌≡◌, None}
use Rattle.std.specs.Prelude.{replicate}
use Rattle.cg_anneal.proofs.walk.no_routes.Given as goal

abbrev pub invariant-loop : goal.invariant-loop
invariant-loop l = l.routes.items ≡ replicate l.counter None
