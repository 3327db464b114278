use Rattle.cg_bound_all.specs.Why.{AreBounds}
use Rattle.cg_bound_all.proofs.bounds.find_bounds.Given as goal

abbrev pub invariant-loop-kind : goal.invariant-loop-kind
invariant-loop-kind l = AreBounds l.arch l.kernel l.tables l.kind-index l.bounds.items
