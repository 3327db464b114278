use Rattle.std.proofs.Common.{rules}
use Rattle.cg_c_syntax.specs.declared.expression.Expr.{the_lemmas}
use Rattle.cg_c_syntax.proofs.Listed.{linked_is}
use Rattle.cg_c_reader.proofs.expressions.chain.Goals as goal

pub returns-in_ok-first : goal.returns-in_ok-first
returns-in_ok-first c = search (rules, linked_is, the_lemmas)
