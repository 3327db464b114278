use Rattle.std.proofs.Common.{◌≡◌, length}
use Rattle.cg_simplify.specs.Merging.{AreLike}
use Rattle.cg_simplify.proofs.merging.like_nodes.Given as goal

abbrev pub invariant-loop-number : goal.invariant-loop-number
invariant-loop-number l = record {
  long : length l.like.items ≡ l.number;
  counted_long : length l.counted.items ≡ l.number;
  like : AreLike l.joins l.like.items;
  counted : AreLike l.joins l.counted.items;
}
