use Rattle.cg_c_quotients.specs.Quotients.{NonePassesBelow}
use Rattle.cg_c_quotients.proofs.factors.least_shift.Given as goal

abbrev pub invariant-loop-shift : goal.invariant-loop-shift
invariant-loop-shift l = NonePassesBelow l.divisor l.turns l.shift
