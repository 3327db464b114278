use Rattle.std.proofs.lemmas.Result.{err_from_is_err_and}
use Rattle.cg_loop_reader.proofs.Stated.{value_found}
use Rattle.cg_loop_reader.proofs.Strayed.{value_end_missed}
use Rattle.cg_loop_reader.proofs.reader.Reader.value.Goals as goal

pub returns-in_err-exactly-2-clause-misses : goal.returns-in_err-exactly-2-clause-misses
returns-in_err-exactly-2-clause-misses c =
    let p = err_from_is_err_and c.from_residual-in_err-exactly-2.result c.from_residual-in_err-exactly-2.ensures.1 in
    rw (p.1, p.2) (value_end_missed c.in_err-exactly-2.field-0.0 c.in_ok-value.value c.args.self.now c.exactly.new.self c.expr.new.self _ c.in_ok-exactly.ensures.ok c.in_ok-value.ensures.ok c.in_err-exactly-2.ensures.misses)

pub returns-clause-ok : goal.returns-clause-ok
returns-clause-ok c = value_found c.in_ok-value.value c.args.self.now c.exactly.new.self c.expr.new.self c.exactly-2.new.self c.in_ok-exactly.ensures.ok c.in_ok-value.ensures.ok c.in_ok-exactly-2.ensures.ok
