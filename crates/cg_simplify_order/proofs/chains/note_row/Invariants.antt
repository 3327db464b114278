use Rattle.std.proofs.Common.{◌≡◌}
use Rattle.cg_simplify_order.proofs.chains.note_row.Given as goal

abbrev pub invariant-loop-to : goal.invariant-loop-to
invariant-loop-to l = l.chains ≡ l.fn.chains
