use Rattle.std.proofs.lemmas.Result.{err_from_is_err_and}
use Rattle.cg_loop_reader.proofs.Entire.{text_found, format_missed, format_end_missed, decls_missed, stmts_missed}
use Rattle.cg_loop_reader.proofs.reader.Reader.text.Goals as goal

pub returns-in_err-exactly-clause-misses : goal.returns-in_err-exactly-clause-misses
returns-in_err-exactly-clause-misses c =
    let p = err_from_is_err_and c.from_residual.result c.from_residual.ensures.1 in
    rw (p.1, p.2) (format_missed c.in_err-exactly.field-0.0 c.args.self.now _ c.in_err-exactly.ensures.misses)

pub returns-in_err-exactly-2-clause-misses : goal.returns-in_err-exactly-2-clause-misses
returns-in_err-exactly-2-clause-misses c =
    let p = err_from_is_err_and c.from_residual-in_err-exactly-2.result c.from_residual-in_err-exactly-2.ensures.1 in
    rw (p.1, p.2) (format_end_missed c.in_err-exactly-2.field-0.0 c.args.self.now c.exactly.new.self _ c.in_ok-exactly.ensures.ok c.in_err-exactly-2.ensures.misses)

pub returns-in_err-decls-clause-misses : goal.returns-in_err-decls-clause-misses
returns-in_err-decls-clause-misses c =
    let p = err_from_is_err_and c.from_residual-in_err-decls.result c.from_residual-in_err-decls.ensures.1 in
    rw (p.1, p.2) (decls_missed c.in_err-decls.field-0.0 c.args.self.now c.exactly.new.self c.exactly-2.new.self _ c.in_ok-exactly.ensures.ok c.in_ok-exactly-2.ensures.ok c.in_err-decls.ensures.misses)

pub returns-in_err-stmts-clause-misses : goal.returns-in_err-stmts-clause-misses
returns-in_err-stmts-clause-misses c =
    let p = err_from_is_err_and c.from_residual-in_err-stmts.result c.from_residual-in_err-stmts.ensures.1 in
    rw (p.1, p.2) (stmts_missed c.in_err-stmts.field-0.0 c.in_ok-decls.decls.items c.args.self.now c.exactly.new.self c.exactly-2.new.self c.decls.new.self _ c.in_ok-exactly.ensures.ok c.in_ok-exactly-2.ensures.ok c.in_ok-decls.ensures.ok c.in_ok-decls.ensures.ends.0 c.in_ok-decls.ensures.ends.1 c.in_err-stmts.ensures.misses)

pub returns-clause-ok : goal.returns-clause-ok
returns-clause-ok c =
    text_found _ c.args.self.now c.exactly.new.self c.exactly-2.new.self c.decls.new.self c.stmts.new.self c.in_ok-exactly.ensures.ok c.in_ok-exactly-2.ensures.ok c.in_ok-decls.ensures.ok c.in_ok-stmts.ensures.ok c.in_ok-stmts.ensures.ends
