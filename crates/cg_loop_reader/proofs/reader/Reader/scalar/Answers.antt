use Rattle.cg_loop_reader.proofs.Atoms.{scalar_found}
use Rattle.cg_loop_reader.proofs.reader.Reader.scalar.Goals as goal

pub returns-clause-ok : goal.returns-clause-ok
returns-clause-ok c = scalar_found c.args.room c.args.name _ c.args.self.now c.note.new.self c.requires.is c.requires.own c.requires.alone c.in_ok-note.ensures.ok
