use Rattle.std.proofs.lemmas.Result.{err_from_is_err_and}
use Rattle.cg_loop_reader.proofs.Strayed.{place_end_missed}
use Rattle.cg_loop_reader.proofs.reader.Reader.place_index.Goals as goal

pub returns-in_err-exactly-2-clause-misses : goal.returns-in_err-exactly-2-clause-misses
returns-in_err-exactly-2-clause-misses c =
    let p = err_from_is_err_and c.from_residual-in_err-exactly-2.result c.from_residual-in_err-exactly-2.ensures.1 in
    rw (p.1, p.2) (place_end_missed c.in_err-exactly-2.field-0.0 c.in_ok-index.index c.args.self.now c.exactly.new.self c.expr.new.self _ c.in_ok-exactly.ensures.ok c.in_ok-index.ensures.ok c.in_err-exactly-2.ensures.misses)

pub returns-clause-ok : goal.returns-clause-ok
returns-clause-ok c = record { inside = c.exactly.new.self; end = c.expr.new.self; opens = c.in_ok-exactly.ensures.ok; index = c.in_ok-index.ensures.ok; closes = c.in_ok-exactly-2.ensures.ok }
