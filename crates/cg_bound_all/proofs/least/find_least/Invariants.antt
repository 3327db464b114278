use Rattle.cg_bound_all.specs.Scan.{IsLeastTo}
use Rattle.cg_bound_all.proofs.least.find_least.Given as goal

abbrev pub invariant-loop-ii : goal.invariant-loop-ii
invariant-loop-ii l = IsLeastTo l.arch l.kernel l.tables l.bounds l.ii l.below
