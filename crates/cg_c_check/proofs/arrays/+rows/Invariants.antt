use Rattle.std.proofs.Common.{◌≡◌, drop}
use Rattle.cg_c_syntax.specs.Written.{rows_list}
use Rattle.cg_c_check.specs.Arrays.{tables_of}
use Rattle.cg_c_check.proofs.Words.{behind}
use Rattle.cg_c_check.proofs.arrays.+rows.Given as goal

-- the words so far, and those of the rows that are left
abbrev pub invariant-tables_of-loop-row : goal.invariant-tables_of-loop-row
invariant-tables_of-loop-row l = tables_of l.names l.dimensions (rows_list l.rows) ≡ behind l.words.items (tables_of l.names l.dimensions (rows_list (drop l.row-index l.rows)))
