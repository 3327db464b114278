use Rattle.std.proofs.lemmas.Result.{err_from_is_err_and}
use Rattle.cg_loop_reader.proofs.Stated.{store_found}
use Rattle.cg_loop_reader.proofs.Strayed.{store_index_missed, store_value_missed}
use Rattle.cg_loop_reader.proofs.reader.Reader.store.Goals as goal

pub returns-in_err-index-clause-misses : goal.returns-in_err-index-clause-misses
returns-in_err-index-clause-misses c =
    let p = err_from_is_err_and c.from_residual-in_err-index.result c.from_residual-in_err-index.ensures.1 in
    rw (p.1, p.2) (store_index_missed c.in_err-index.field-0.0 _ c.args.self.now c.note.new.self _ c.requires.opens c.in_ok-note.ensures.ok c.in_err-index.ensures.misses)

pub returns-in_err-value-clause-misses : goal.returns-in_err-value-clause-misses
returns-in_err-value-clause-misses c =
    let p = err_from_is_err_and c.from_residual-in_err-value.result c.from_residual-in_err-value.ensures.1 in
    rw (p.1, p.2) (store_value_missed c.in_err-value.field-0.0 _ c.in_ok-index.index c.args.self.now c.note.new.self c.place_index.new.self _ c.in_ok-note.ensures.ok c.in_ok-index.ensures.ok c.in_err-value.ensures.misses)

pub returns-clause-ok : goal.returns-clause-ok
returns-clause-ok c =
    let x = c.in_ok-index.ensures.ok in
    store_found c.args.name c.in_ok-name.name c.in_ok-index.index c.in_ok-value.field-0 c.args.self.now c.note.new.self x.inside x.end c.place_index.new.self c.guarded.new.self c.requires.is
    c.in_ok-note.ensures.ok x.opens x.index x.closes c.in_ok-value.ensures.ok c.in_ok-name.ensures
