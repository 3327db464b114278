use Rattle.cg_c_syntax.proofs.StmtRows.{braces}
use Rattle.cg_c_reader.proofs.statements.braced.Goals as goal

pub returns : goal.returns
returns c = braces c.args.stmts
