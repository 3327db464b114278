use Rattle.std.proofs.Common.{◌≡◌}
use Rattle.cg_simplify_order.proofs.chains.note_data.Given as goal

abbrev pub invariant-loop-from : goal.invariant-loop-from
invariant-loop-from l = l.chains ≡ l.fn.chains
