use Rattle.std.proofs.Common.{◌≡◌}
use Rattle.cg_depend.specs.Affine.{pairs}
use Rattle.cg_depend.proofs.table.all_pairs.Given as goal

abbrev pub invariant-loop-number : goal.invariant-loop-number
invariant-loop-number l = l.pairs.items ≡ pairs l.kernel l.number
