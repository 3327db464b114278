use Rattle.cg_loop_reader.proofs.Stated.{emit_found}
use Rattle.cg_loop_reader.proofs.reader.Reader.emit.Goals as goal

pub returns-clause-ok : goal.returns-clause-ok
returns-clause-ok c =
    emit_found c.args.token c.in_ok-port.port c.in_ok-value.field-0 c.args.self.now c.take.new.self c.number.new.self c.note_port.new.self c.guarded.new.self
    c.requires.is c.take.ensures.taken c.take.ensures.kept c.in_ok-port.ensures.ok c.in_ok-note_port.ensures.ok c.in_ok-value.ensures.ok
