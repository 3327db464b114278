use Rattle.std.proofs.Common.{rules}
use Rattle.cg_c_syntax.specs.declared.source.Rows.{the_lemmas}
use Rattle.cg_c_syntax.proofs.StmtRows.{row_rows_is}
use Rattle.cg_c_reader.proofs.declarations.listed.Goals as goal

pub returns : goal.returns
returns c = search (rules, row_rows_is, the_lemmas)
