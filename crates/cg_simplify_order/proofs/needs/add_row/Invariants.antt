use Rattle.cg_simplify_order.specs.Found.{Adds, PairsTo}
use Rattle.cg_simplify_order.proofs.needs.add_row.Given as goal

-- the node was asked about the nodes so far
abbrev pub invariant-loop-v : goal.invariant-loop-v
invariant-loop-v l = Adds l.rewriting.given l.rewriting.rewritten (PairsTo l.u l.v) l.fn.needs.items l.needs.items
