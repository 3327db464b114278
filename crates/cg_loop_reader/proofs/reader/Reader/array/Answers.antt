use Rattle.std.proofs.lemmas.Result.{err_from_is_err_and}
use Rattle.cg_loop_reader.proofs.Stated.{array_found, exact_read, name_read, number_read}
use Rattle.cg_loop_reader.proofs.Strayed.{array_missed, first_missed, later_missed}
use Rattle.cg_loop_reader.proofs.reader.Reader.array.Goals as goal

pub returns-in_err-name-clause-misses : goal.returns-in_err-name-clause-misses
returns-in_err-name-clause-misses c =
    let p = err_from_is_err_and c.from_residual.result c.from_residual.ensures.1 in
    rw (p.1, p.2) (array_missed c.in_err-name.field-0.0 c.args.token c.args.self.now c.take.new.self _ c.requires.is c.take.ensures.taken
    (first_missed c.in_err-name.field-0.0 _ _ c.take.new.self _ c.in_err-name.ensures.misses))

pub returns-in_err-exactly-clause-misses : goal.returns-in_err-exactly-clause-misses
returns-in_err-exactly-clause-misses c =
    let p = err_from_is_err_and c.from_residual-in_err-exactly.result c.from_residual-in_err-exactly.ensures.1 in
    rw (p.1, p.2) (array_missed c.in_err-exactly.field-0.0 c.args.token c.args.self.now c.take.new.self _ c.requires.is c.take.ensures.taken
    (later_missed c.in_err-exactly.field-0.0 _ _ c.take.new.self c.name.new.self _ (name_read c.in_ok-name.name c.take.new.self c.name.new.self c.in_ok-name.ensures.ok) (first_missed c.in_err-exactly.field-0.0 _ _ c.name.new.self _ c.in_err-exactly.ensures.misses)))

pub returns-in_err-at-clause-misses : goal.returns-in_err-at-clause-misses
returns-in_err-at-clause-misses c =
    let p = err_from_is_err_and c.from_residual-in_err-at.result c.from_residual-in_err-at.ensures.1 in
    rw (p.1, p.2) (array_missed c.in_err-at.field-0.0 c.args.token c.args.self.now c.take.new.self _ c.requires.is c.take.ensures.taken
    (later_missed c.in_err-at.field-0.0 _ _ c.take.new.self c.name.new.self _ (name_read c.in_ok-name.name c.take.new.self c.name.new.self c.in_ok-name.ensures.ok) (later_missed c.in_err-at.field-0.0 _ _ c.name.new.self c.exactly.new.self _ (exact_read c.name.new.self c.exactly.new.self c.in_ok-exactly.ensures.ok) (first_missed c.in_err-at.field-0.0 _ _ c.exactly.new.self _ c.in_err-at.ensures.misses))))

pub returns-in_err-exactly-2-clause-misses : goal.returns-in_err-exactly-2-clause-misses
returns-in_err-exactly-2-clause-misses c =
    let p = err_from_is_err_and c.from_residual-in_err-exactly-2.result c.from_residual-in_err-exactly-2.ensures.1 in
    rw (p.1, p.2) (array_missed c.in_err-exactly-2.field-0.0 c.args.token c.args.self.now c.take.new.self _ c.requires.is c.take.ensures.taken
    (later_missed c.in_err-exactly-2.field-0.0 _ _ c.take.new.self c.name.new.self _ (name_read c.in_ok-name.name c.take.new.self c.name.new.self c.in_ok-name.ensures.ok) (later_missed c.in_err-exactly-2.field-0.0 _ _ c.name.new.self c.exactly.new.self _ (exact_read c.name.new.self c.exactly.new.self c.in_ok-exactly.ensures.ok) (later_missed c.in_err-exactly-2.field-0.0 _ _ c.exactly.new.self c.number.new.self _ (number_read c.in_ok-at.field-0 c.exactly.new.self c.number.new.self c.in_ok-at.ensures.ok) (first_missed c.in_err-exactly-2.field-0.0 _ _ c.number.new.self _ c.in_err-exactly-2.ensures.misses)))))

pub returns-in_err-len-clause-misses : goal.returns-in_err-len-clause-misses
returns-in_err-len-clause-misses c =
    let p = err_from_is_err_and c.from_residual-in_err-len.result c.from_residual-in_err-len.ensures.1 in
    rw (p.1, p.2) (array_missed c.in_err-len.field-0.0 c.args.token c.args.self.now c.take.new.self _ c.requires.is c.take.ensures.taken
    (later_missed c.in_err-len.field-0.0 _ _ c.take.new.self c.name.new.self _ (name_read c.in_ok-name.name c.take.new.self c.name.new.self c.in_ok-name.ensures.ok) (later_missed c.in_err-len.field-0.0 _ _ c.name.new.self c.exactly.new.self _ (exact_read c.name.new.self c.exactly.new.self c.in_ok-exactly.ensures.ok) (later_missed c.in_err-len.field-0.0 _ _ c.exactly.new.self c.number.new.self _ (number_read c.in_ok-at.field-0 c.exactly.new.self c.number.new.self c.in_ok-at.ensures.ok) (later_missed c.in_err-len.field-0.0 _ _ c.number.new.self c.exactly-2.new.self _ (exact_read c.number.new.self c.exactly-2.new.self c.in_ok-exactly-2.ensures.ok) (first_missed c.in_err-len.field-0.0 _ _ c.exactly-2.new.self _ c.in_err-len.ensures.misses))))))

pub returns-in_err-exactly-3-clause-misses : goal.returns-in_err-exactly-3-clause-misses
returns-in_err-exactly-3-clause-misses c =
    let p = err_from_is_err_and c.from_residual-in_err-exactly-3.result c.from_residual-in_err-exactly-3.ensures.1 in
    rw (p.1, p.2) (array_missed c.in_err-exactly-3.field-0.0 c.args.token c.args.self.now c.take.new.self _ c.requires.is c.take.ensures.taken
    (later_missed c.in_err-exactly-3.field-0.0 _ _ c.take.new.self c.name.new.self _ (name_read c.in_ok-name.name c.take.new.self c.name.new.self c.in_ok-name.ensures.ok) (later_missed c.in_err-exactly-3.field-0.0 _ _ c.name.new.self c.exactly.new.self _ (exact_read c.name.new.self c.exactly.new.self c.in_ok-exactly.ensures.ok) (later_missed c.in_err-exactly-3.field-0.0 _ _ c.exactly.new.self c.number.new.self _ (number_read c.in_ok-at.field-0 c.exactly.new.self c.number.new.self c.in_ok-at.ensures.ok) (later_missed c.in_err-exactly-3.field-0.0 _ _ c.number.new.self c.exactly-2.new.self _ (exact_read c.number.new.self c.exactly-2.new.self c.in_ok-exactly-2.ensures.ok) (later_missed c.in_err-exactly-3.field-0.0 _ _ c.exactly-2.new.self c.number-2.new.self _ (number_read c.in_ok-len.field-0 c.exactly-2.new.self c.number-2.new.self c.in_ok-len.ensures.ok) c.in_err-exactly-3.ensures.misses))))))

pub returns-clause-ok : goal.returns-clause-ok
returns-clause-ok c =
    array_found c.args.token c.in_ok-name.name c.in_ok-name-2.name c.in_ok-at.field-0 c.in_ok-len.field-0 c.args.self.now c.take.new.self c.name.new.self c.exactly.new.self c.number.new.self c.exactly-2.new.self c.number-2.new.self c.exactly-3.new.self c.note.new.self
    c.requires.is c.take.ensures.taken c.take.ensures.kept c.in_ok-name.ensures.ok c.in_ok-exactly.ensures.ok c.in_ok-at.ensures.ok c.in_ok-exactly-2.ensures.ok c.in_ok-len.ensures.ok c.in_ok-exactly-3.ensures.ok c.in_ok-note.ensures.ok c.in_ok-name-2.ensures
