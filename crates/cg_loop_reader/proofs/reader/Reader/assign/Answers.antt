use Rattle.std.proofs.lemmas.Result.{err_from_is_err_and}
use Rattle.cg_loop_reader.proofs.Stated.{assign_found}
use Rattle.cg_loop_reader.proofs.Strayed.{assign_missed}
use Rattle.cg_loop_reader.proofs.reader.Reader.assign.Goals as goal

pub returns-in_err-value-clause-misses : goal.returns-in_err-value-clause-misses
returns-in_err-value-clause-misses c =
    let p = err_from_is_err_and c.from_residual-in_err-value.result c.from_residual-in_err-value.ensures.1 in
    rw (p.1, p.2) (assign_missed c.in_err-value.field-0.0 _ c.args.self.now c.note.new.self _ c.requires.alone c.in_ok-note.ensures.ok c.in_err-value.ensures.misses)

pub returns-clause-ok : goal.returns-clause-ok
returns-clause-ok c = assign_found c.args.name c.in_ok-name.name c.in_ok-value.value c.args.self.now c.note.new.self c.value.new.self c.requires.is c.in_ok-note.ensures.ok c.in_ok-value.ensures.ok c.in_ok-name.ensures
