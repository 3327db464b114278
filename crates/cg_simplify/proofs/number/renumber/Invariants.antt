use Rattle.cg_simplify.specs.Live.{AreNumbered}
use Rattle.cg_simplify.proofs.number.renumber.Given as goal

abbrev pub invariant-loop-number : goal.invariant-loop-number
invariant-loop-number l = AreNumbered l.number l.marks l.kept.items l.numbers.items
