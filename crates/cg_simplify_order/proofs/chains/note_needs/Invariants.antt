use Rattle.std.proofs.Common.{◌≡◌}
use Rattle.cg_simplify_order.proofs.chains.note_needs.Given as goal

abbrev pub invariant-loop-number : goal.invariant-loop-number
invariant-loop-number l = l.chains ≡ l.fn.chains
