use Rattle.std.proofs.Common.{◌≡◌, ℕ, ◌<◌, length}
use Rattle.cg_distance.specs.Table.{IsRow, row_of}
use Rattle.cg_distance.proofs.totals.all_totals.Given as goal

abbrev pub invariant-loop-source : goal.invariant-loop-source
invariant-loop-source l = (length l.rows.items ≡ l.source) × ((u : ℕ) → u < l.source → IsRow l.kernel u (row_of l.rows.items u))
