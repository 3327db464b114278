use Rattle.std.proofs.Common.{take}
use Rattle.cg_gates.specs.Numbers.{AreFirst, by_name}
use Rattle.cg_gates.proofs.numbers.numbers_of.Given as goal

abbrev pub invariant-loop-number : goal.invariant-loop-number
invariant-loop-number g l = AreFirst l.numbers (by_name g.T.HasName.own) (take l.number l.items)
