use Rattle.std.proofs.Common.{◌≡◌, replicate}
use Rattle.cg_config.proofs.config.rows_of.Given as goal

abbrev pub invariant-loop-row : goal.invariant-loop-row
invariant-loop-row g l = l.rows.items ≡ replicate l._row (replicate l.count l.item)
