use Rattle.std.proofs.Common.{[]}
use Rattle.cg_simplify_order.specs.Found.{Adds, RowsTo}
use Rattle.cg_simplify_order.proofs.needs.all_needs.Given as goal

-- the nodes so far were asked
abbrev pub invariant-loop-u : goal.invariant-loop-u
invariant-loop-u l = Adds l.fn.given l.rewritten (RowsTo l.u) [] l.needs.items
