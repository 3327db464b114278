use Rattle.cg_bound_routes.proofs.Tables.{NoneBelow}
use Rattle.cg_bound_routes.proofs.missing.first_without_way.Given as goal

abbrev pub invariant-loop-node : goal.invariant-loop-node
invariant-loop-node l = NoneBelow l.kernel l.ways l.node
