use Rattle.std.proofs.Common.{◌≡◌, false, replicate}
use Rattle.cg_c_order.proofs.marks.no_rows.Given as goal

abbrev pub invariant-loop : goal.invariant-loop
invariant-loop l = l.rows.items ≡ replicate l.counter (replicate l.size false)
