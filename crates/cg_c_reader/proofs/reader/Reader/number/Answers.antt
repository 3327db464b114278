use Rattle.std.proofs.Common.{sym, ◌∙◌, subst}
use Rattle.cg_c_syntax.specs.declared.expression.Number.{Number}
use Rattle.cg_c_syntax.specs.Symbols.{Digits}
use Rattle.cg_c_reader.specs.Left.{left, ReadsTo}
use Rattle.cg_c_reader.proofs.Single.{digits_read, digits_stop}
use Rattle.cg_c_reader.proofs.reader.Reader.number.Goals as goal

pub returns-then-is_number-clause-ok : goal.returns-then-is_number-clause-ok
returns-then-is_number-clause-ok c =
    subst (λ (n : Number). ReadsTo Digits n (left c.args.self.now) (left c.numeral.new.self)) (sym c.numeral.ensures.value)
    (digits_read (left c.args.self.now) (left c.numeral.new.self) (sym c.is_number.ensures ∙ c.if-is_number.true) c.numeral.ensures.taken)

pub returns-else-is_number-clause-misses : goal.returns-else-is_number-clause-misses
returns-else-is_number-clause-misses c = digits_stop (left c.args.self.now) (sym c.is_number.ensures ∙ c.if-is_number.false)
