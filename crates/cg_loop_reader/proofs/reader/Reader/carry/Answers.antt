use Rattle.std.proofs.lemmas.Result.{err_from_is_err_and}
use Rattle.cg_loop_reader.proofs.Stated.{carry_found, exact_read, name_read, number_read}
use Rattle.cg_loop_reader.proofs.Strayed.{carry_missed, first_missed, later_missed}
use Rattle.cg_loop_reader.proofs.reader.Reader.carry.Goals as goal

pub returns-in_err-name-clause-misses : goal.returns-in_err-name-clause-misses
returns-in_err-name-clause-misses c =
    let p = err_from_is_err_and c.from_residual.result c.from_residual.ensures.1 in
    rw (p.1, p.2) (carry_missed c.in_err-name.field-0.0 c.args.token c.args.self.now c.take.new.self _ c.requires.is c.take.ensures.taken
    (first_missed c.in_err-name.field-0.0 _ _ c.take.new.self _ c.in_err-name.ensures.misses))

pub returns-in_err-exactly-clause-misses : goal.returns-in_err-exactly-clause-misses
returns-in_err-exactly-clause-misses c =
    let p = err_from_is_err_and c.from_residual-in_err-exactly.result c.from_residual-in_err-exactly.ensures.1 in
    rw (p.1, p.2) (carry_missed c.in_err-exactly.field-0.0 c.args.token c.args.self.now c.take.new.self _ c.requires.is c.take.ensures.taken
    (later_missed c.in_err-exactly.field-0.0 _ _ c.take.new.self c.name.new.self _ (name_read c.in_ok-name.name c.take.new.self c.name.new.self c.in_ok-name.ensures.ok) (first_missed c.in_err-exactly.field-0.0 _ _ c.name.new.self _ c.in_err-exactly.ensures.misses)))

pub returns-in_err-start-clause-misses : goal.returns-in_err-start-clause-misses
returns-in_err-start-clause-misses c =
    let p = err_from_is_err_and c.from_residual-in_err-start.result c.from_residual-in_err-start.ensures.1 in
    rw (p.1, p.2) (carry_missed c.in_err-start.field-0.0 c.args.token c.args.self.now c.take.new.self _ c.requires.is c.take.ensures.taken
    (later_missed c.in_err-start.field-0.0 _ _ c.take.new.self c.name.new.self _ (name_read c.in_ok-name.name c.take.new.self c.name.new.self c.in_ok-name.ensures.ok) (later_missed c.in_err-start.field-0.0 _ _ c.name.new.self c.exactly.new.self _ (exact_read c.name.new.self c.exactly.new.self c.in_ok-exactly.ensures.ok) (first_missed c.in_err-start.field-0.0 _ _ c.exactly.new.self _ c.in_err-start.ensures.misses))))

pub returns-in_err-exactly-2-clause-misses : goal.returns-in_err-exactly-2-clause-misses
returns-in_err-exactly-2-clause-misses c =
    let p = err_from_is_err_and c.from_residual-in_err-exactly-2.result c.from_residual-in_err-exactly-2.ensures.1 in
    rw (p.1, p.2) (carry_missed c.in_err-exactly-2.field-0.0 c.args.token c.args.self.now c.take.new.self _ c.requires.is c.take.ensures.taken
    (later_missed c.in_err-exactly-2.field-0.0 _ _ c.take.new.self c.name.new.self _ (name_read c.in_ok-name.name c.take.new.self c.name.new.self c.in_ok-name.ensures.ok) (later_missed c.in_err-exactly-2.field-0.0 _ _ c.name.new.self c.exactly.new.self _ (exact_read c.name.new.self c.exactly.new.self c.in_ok-exactly.ensures.ok) (later_missed c.in_err-exactly-2.field-0.0 _ _ c.exactly.new.self c.number.new.self _ (number_read c.in_ok-start.field-0 c.exactly.new.self c.number.new.self c.in_ok-start.ensures.ok) c.in_err-exactly-2.ensures.misses))))

pub returns-clause-ok : goal.returns-clause-ok
returns-clause-ok c =
    carry_found c.args.token c.in_ok-name.name c.in_ok-name-2.name c.in_ok-start.field-0 c.args.self.now c.take.new.self c.name.new.self c.exactly.new.self c.number.new.self c.exactly-2.new.self c.note.new.self
    c.requires.is c.take.ensures.taken c.take.ensures.kept c.in_ok-name.ensures.ok c.in_ok-exactly.ensures.ok c.in_ok-start.ensures.ok c.in_ok-exactly-2.ensures.ok c.in_ok-note.ensures.ok c.in_ok-name-2.ensures
