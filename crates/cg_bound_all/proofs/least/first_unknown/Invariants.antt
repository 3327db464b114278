use Rattle.cg_bound_all.specs.Scan.{MayBeginAfter}
use Rattle.cg_bound_all.proofs.least.first_unknown.Given as goal

abbrev pub invariant-loop-bound : goal.invariant-loop-bound
invariant-loop-bound l = MayBeginAfter l.arch l.kernel l.tables l.bounds l.bound-index l.first
