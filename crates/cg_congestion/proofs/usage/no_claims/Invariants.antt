use Rattle.std.proofs.Common.{◌≡◌, []}
use Rattle.std.specs.Prelude.{replicate}
use Rattle.cg_congestion.proofs.usage.no_claims.Given as goal

abbrev pub invariant-loop : goal.invariant-loop
invariant-loop l = l.nodes.items ≡ replicate l.counter []
