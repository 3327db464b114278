use Rattle.std.proofs.Common.{sym, ◌∙◌}
use Rattle.cg_c_syntax.specs.declared.token.Kind.TheVariants.{Cgra}
use Rattle.cg_c_reader.specs.Left.{left}
use Rattle.cg_c_reader.proofs.Single.{kind_reads, kind_stops}
use Rattle.cg_c_reader.proofs.reader.Reader.cgra_include.Goals as goal

pub returns-then-is_cgra-clause-ok : goal.returns-then-is_cgra-clause-ok
returns-then-is_cgra-clause-ok c = kind_reads Cgra (left c.args.self.now) (left c.take.new.self) (sym c.is_cgra.ensures ∙ c.if-is_cgra.true) c.take.ensures.taken

pub returns-else-is_cgra-clause-misses : goal.returns-else-is_cgra-clause-misses
returns-else-is_cgra-clause-misses c = kind_stops Cgra (left c.args.self.now) (sym c.is_cgra.ensures ∙ c.if-is_cgra.false)
