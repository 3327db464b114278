use Rattle.cg_loop_reader.proofs.Atoms.{input_found}
use Rattle.cg_loop_reader.proofs.reader.Reader.input_atom.Goals as goal

pub returns-clause-ok : goal.returns-clause-ok
returns-clause-ok c = input_found c.args.room c.args.token c.in_ok-port.port c.args.self.now c.take.new.self c.number.new.self c.note_port.new.self c.requires.is c.take.ensures.taken c.take.ensures.kept c.in_ok-port.ensures.ok c.in_ok-note_port.ensures.ok
