use Rattle.std.proofs.Common.{sym, ◌∙◌}
use Rattle.cg_loop_reader.proofs.Strayed.{stmt_missed}
use Rattle.cg_loop_reader.proofs.reader.Reader.stmt.Goals as goal

pub returns-else-is_name-clause-misses : goal.returns-else-is_name-clause-misses
returns-else-is_name-clause-misses c = stmt_missed c.args.self.now c.args.token c.requires (sym c.same.ensures ∙ c.if-same.false) (sym c.same-else-same.ensures ∙ c.if-same-2.false) (sym c.is_name.ensures ∙ c.if-is_name.false)
