use Rattle.std.proofs.Common.{◌≡◌, length}
use Rattle.cg_simplify.specs.Merging.{AreLike}
use Rattle.cg_simplify.proofs.pairing.paired_nodes.Given as goal

abbrev pub invariant-loop-number : goal.invariant-loop-number
invariant-loop-number l = record {
  long : length l.paired.items ≡ l.number;
  like : AreLike l.kernel l.paired.items;
}
