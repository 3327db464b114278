use Rattle.std.proofs.Common.{◌≡◌, length}
use Rattle.cg_simplify_facts.specs.Suits.{AreTops}
use Rattle.cg_simplify_facts.proofs.node_tops.tops_of.Given as goal

abbrev pub invariant-loop-number : goal.invariant-loop-number
invariant-loop-number l = (length l.tops.items ≡ l.number) × AreTops l.kernel l.tops.items
