use Rattle.std.proofs.Common.{sym, ◌∙◌}
use Rattle.cg_c_syntax.specs.declared.token.Kind.TheVariants.{LineEnd}
use Rattle.cg_c_reader.specs.Left.{left}
use Rattle.cg_c_reader.proofs.Single.{kind_reads, kind_stops}
use Rattle.cg_c_reader.proofs.reader.Reader.line_end.Goals as goal

pub returns-then-is_line_end-clause-ok : goal.returns-then-is_line_end-clause-ok
returns-then-is_line_end-clause-ok c = kind_reads LineEnd (left c.args.self.now) (left c.take.new.self) (sym c.is_line_end.ensures ∙ c.if-is_line_end.true) c.take.ensures.taken

pub returns-else-is_line_end-clause-misses : goal.returns-else-is_line_end-clause-misses
returns-else-is_line_end-clause-misses c = kind_stops LineEnd (left c.args.self.now) (sym c.is_line_end.ensures ∙ c.if-is_line_end.false)
