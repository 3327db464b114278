use Rattle.cg_loop_reader.proofs.Atoms.{number_found}
use Rattle.cg_loop_reader.proofs.reader.Reader.number_atom.Goals as goal

pub returns-clause-ok : goal.returns-clause-ok
returns-clause-ok c = number_found c.args.room c.args.value c.args.token c.args.self.now c.take.new.self c.requires.is c.requires.value c.take.ensures.taken c.take.ensures.kept
